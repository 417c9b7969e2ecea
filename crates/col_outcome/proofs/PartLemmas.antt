-- Files that were handed in, among others and in lists.
use Rattle.std.proofs.Common.{◌≡◌, ℕ, suc, List, [], ◌∷◌, ◌++◌, map, reverse, length, cond, refl, ap, ◌∙◌, arith, inl, inr}
use Rattle.std.proofs.lemmas.List.{map-append, reverse-append}
use Rattle.std.proofs.lemmas.List.Elements.{filter-append}
use Rattle.col_common.specs.Causes.{Rose}
use Rattle.col_common.specs.Outside.{SeenFile}
use Rattle.col_file.specs.Files.{ReadsFile}
use Rattle.col_file.specs.Readers.{SeenReader}
use Rattle.col_file.proofs.ReadLemmas.{rose-later}
use Rattle.col_outcome.specs.Parts.{given, handed_in, is_given, is_above_zero, given_in, files_in, KeepsFile, AllKeep, SomeFileRose}

-- ---- files that stay

keeps-itself : (f : SeenFile) → KeepsFile f f
keeps-itself f = record { told = refl; size = refl; later = omega arith; mark = refl }

pub keeps-then : (f g h : SeenFile) → KeepsFile f g → KeepsFile g h → KeepsFile f h
keeps-then f g h a b =
    record {
      told = b.told ∙ a.told;
      size = b.size ∙ a.size;
      later = omega (arith, a.later, b.later);
      mark = b.mark ∙ a.mark;
    }

-- a file that was read is kept
pub keeps-read : (n : ℕ) (f g : SeenFile) → ReadsFile n f g → KeepsFile f g
keeps-read n f g h = record { told = h.told; size = h.size; later = h.later; mark = h.mark }

-- files that stay as they are are kept
pub all_keep-none : (fs : List SeenFile) → AllKeep fs fs
all_keep-none [] = tt
all_keep-none (f ∷ fs) = (keeps-itself f, all_keep-none fs)

-- files that are kept, and then kept again, are kept
pub all_keep-then : (fs gs hs : List SeenFile) → AllKeep fs gs → AllKeep gs hs → AllKeep fs hs
all_keep-then [] [] [] a b = tt
all_keep-then [] [] (h ∷ hs) a b = absurd b
all_keep-then [] (g ∷ gs) hs a b = absurd a
all_keep-then (f ∷ fs) [] hs a b = absurd a
all_keep-then (f ∷ fs) (g ∷ gs) [] a b = absurd b
all_keep-then (f ∷ fs) (g ∷ gs) (h ∷ hs) a b = (keeps-then f g h a.0 b.0, all_keep-then fs gs hs a.1 b.1)

-- two lists of kept files are kept when they are joined
pub all_keep-append : (fs gs us vs : List SeenFile) → AllKeep fs gs → AllKeep us vs → AllKeep (fs ++ us) (gs ++ vs)
all_keep-append [] [] us vs a b = b
all_keep-append [] (g ∷ gs) us vs a b = absurd a
all_keep-append (f ∷ fs) [] us vs a b = absurd a
all_keep-append (f ∷ fs) (g ∷ gs) us vs a b = (a.0, all_keep-append fs gs us vs a.1 b)

-- there are as many kept files as before
pub all_keep-long : (fs gs : List SeenFile) → AllKeep fs gs → length fs ≡ length gs
all_keep-long [] [] a = refl
all_keep-long [] (g ∷ gs) a = absurd a
all_keep-long (f ∷ fs) [] a = absurd a
all_keep-long (f ∷ fs) (g ∷ gs) a = ap suc (all_keep-long fs gs a.1)

-- ---- counts that rose

-- a count that rose later rose
pub some_rose-later : (fs gs hs : List SeenFile) → AllKeep fs gs → SomeFileRose gs hs → SomeFileRose fs hs
some_rose-later [] [] hs a b = absurd b
some_rose-later [] (g ∷ gs) hs a b = absurd a
some_rose-later (f ∷ fs) [] hs a b = absurd a
some_rose-later (f ∷ fs) (g ∷ gs) [] a b = absurd b
some_rose-later (f ∷ fs) (g ∷ gs) (h ∷ hs) a (inl rose) = inl (rose-later f.faults g.faults h.faults a.0.later rose)
some_rose-later (f ∷ fs) (g ∷ gs) (h ∷ hs) a (inr more) = inr (some_rose-later fs gs hs a.1 more)

-- one of the first ones rose
pub some_rose-first : (fs gs us vs : List SeenFile) → SomeFileRose fs gs → SomeFileRose (fs ++ us) (gs ++ vs)
some_rose-first [] gs us vs h = absurd h
some_rose-first (f ∷ fs) [] us vs h = absurd h
some_rose-first (f ∷ fs) (g ∷ gs) us vs (inl rose) = inl rose
some_rose-first (f ∷ fs) (g ∷ gs) us vs (inr more) = inr (some_rose-first fs gs us vs more)

-- the one behind these rose
pub some_rose-behind : (fs gs us vs : List SeenFile) (f g : SeenFile) → AllKeep fs gs → Rose f.faults g.faults
    → SomeFileRose (fs ++ f ∷ us) (gs ++ g ∷ vs)
some_rose-behind [] [] us vs f g a rose = inl rose
some_rose-behind [] (y ∷ gs) us vs f g a rose = absurd a
some_rose-behind (x ∷ fs) [] us vs f g a rose = absurd a
some_rose-behind (x ∷ fs) (y ∷ gs) us vs f g a rose = inr (some_rose-behind fs gs us vs f g a.1 rose)

-- ---- files that were handed in

-- a file with such a mark was handed in
pub given-one : (f : SeenFile) (n : ℕ) → f.mark ≡ suc n → given_in (f ∷ []) ≡ f ∷ []
given-one f n e = rw e refl

-- one with the mark 0 was made
pub made-one : (f : SeenFile) → f.mark ≡ 0 → given_in (f ∷ []) ≡ []
made-one f e = rw e refl

-- the first of several
pub given-first : (f : SeenFile) (fs : List SeenFile) (n : ℕ) → f.mark ≡ suc n → given_in (f ∷ fs) ≡ f ∷ given_in fs
given-first f fs n e = ap (λ b. cond b (f ∷ given_in fs) (given_in fs)) (ap is_above_zero e)

-- a made file in front isn't among those that were handed in
pub made-first : (f : SeenFile) (fs : List SeenFile) → f.mark ≡ 0 → given_in (f ∷ fs) ≡ given_in fs
made-first f fs e = ap (λ b. cond b (f ∷ given_in fs) (given_in fs)) (ap is_above_zero e)

-- one reader behind others
pub given-pushed : (rs more : List SeenReader) (r : SeenReader) → more ≡ rs ++ r ∷ []
    → given_in (files_in more) ≡ given_in (files_in rs) ++ given_in (r.file ∷ [])
given-pushed rs more r grown =
    ap (λ ss. given_in (files_in ss)) grown
    ∙ ap given_in (map-append (λ (s : SeenReader). s.file) rs (r ∷ []))
    ∙ filter-append is_given (files_in rs) (r.file ∷ [])

-- one more that is left, the last one first
pub handed-pushed : {H : Type 0} (see : H → SeenFile) (left more : List H) (h : H) → more ≡ left ++ h ∷ []
    → handed_in see (reverse more) ≡ given (see h) ∷ handed_in see (reverse left)
handed-pushed see left more h grown = ap (λ hs. handed_in see (reverse hs)) grown ∙ ap (handed_in see) (reverse-append left (h ∷ []))

-- ---- files that are handed back

same-suc : (a b : ℕ) → suc a ≡ suc b → a ≡ b
same-suc a b e = omega (arith, e)

-- files that are kept as parts are kept
pub kept-seen : {H : Type 0} (see : H → SeenFile) (olds news : List H)
    → AllKeep (handed_in see olds) (handed_in see news) → AllKeep (map see olds) (map see news)
kept-seen see [] [] h = tt
kept-seen see [] (y ∷ news) h = absurd h
kept-seen see (x ∷ olds) [] h = absurd h
kept-seen see (x ∷ olds) (y ∷ news) h = (
  record {
    told = h.0.told;
    size = h.0.size;
    later = h.0.later;
    mark = same-suc (see y).mark (see x).mark h.0.mark;
  },
  kept-seen see olds news h.1,
)

-- where the count of some part rose, that of its file did
pub rose-seen : {H : Type 0} (see : H → SeenFile) (olds news : List H)
    → SomeFileRose (handed_in see olds) (handed_in see news) → SomeFileRose (map see olds) (map see news)
rose-seen see [] news h = absurd h
rose-seen see (x ∷ olds) [] h = absurd h
rose-seen see (x ∷ olds) (y ∷ news) (inl rose) = inl rose
rose-seen see (x ∷ olds) (y ∷ news) (inr more) = inr (rose-seen see olds news more)
