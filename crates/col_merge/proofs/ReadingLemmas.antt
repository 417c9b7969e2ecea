-- What reading leaves of readers, one after another.
use Rattle.std.proofs.Common.{◌≡◌, ℕ, zero, suc, ◌+◌, ◌<◌, ◌≤◌, List, [], ◌∷◌, drop, length, get_or, Some, IfSome, slice_get, refl, sym, ap, ap₂, ◌∙◌, subst, add-one}
use Rattle.std.specs.List.{AllByRecursion}
use Rattle.std.proofs.Math.ListN.{set}
use Rattle.std.proofs.lemmas.Option.{slice_get-get_or}
use Rattle.col_common.specs.Causes.{Rose}
use Rattle.col_model.specs.Keys.{FileKeys, keys}
use Rattle.col_model.proofs.SharedTypes.{some≢none, same-some}
use Rattle.col_common.specs.Reading.{◌>>=◌}
use Rattle.col_file.specs.Readers.{SeenReader, IsRead, IsWithin, Reads}
use Rattle.col_file.proofs.ReadLemmas.{reads-none, reads-then, reads-most, rose-later}
use Rattle.col_model.specs.File.{parts_of}
use Rattle.col_merge.specs.Parts.{told_part, told_parts}
use Rattle.col_merge.specs.Readings.{AllRead, SomeReaderRose}
use Rattle.col_merge_plan.specs.Slots.{counts_read, keys_read}

-- readers that stay as they are were read no more than so often
pub all_read-none : (times : FileKeys → ℕ) (rs : List SeenReader) → AllRead times rs rs
all_read-none times [] = tt
all_read-none times (r ∷ rs) = (reads-none (times r.keys) r, all_read-none times rs)

-- readings after others are at most as many as both together
pub all_read-then : (m n : FileKeys → ℕ) (rs ss us : List SeenReader) → AllRead m rs ss → AllRead n ss us → AllRead (λ k. m k + n k) rs us
all_read-then m n [] [] [] h k = tt
all_read-then m n [] [] (u ∷ us) h k = absurd k
all_read-then m n [] (s ∷ ss) us h k = absurd h
all_read-then m n (r ∷ rs) [] us h k = absurd h
all_read-then m n (r ∷ rs) (s ∷ ss) [] h k = absurd k
all_read-then m n (r ∷ rs) (s ∷ ss) (u ∷ us) h k = (
  reads-then (m r.keys) (n r.keys) r s u h.0 (subst (λ keys. Reads (n keys) s u) h.0.keys k.0),
  all_read-then m n rs ss us h.1 k.1,
)

-- readings of at most a count are of at most a greater one
pub all_read-most : (m n : FileKeys → ℕ) (rs ss : List SeenReader) → ((k : FileKeys) → m k ≤ n k) → AllRead m rs ss → AllRead n rs ss
all_read-most m n [] [] le h = tt
all_read-most m n [] (s ∷ ss) le h = absurd h
all_read-most m n (r ∷ rs) [] le h = absurd h
all_read-most m n (r ∷ rs) (s ∷ ss) le h = (reads-most (m r.keys) (n r.keys) r s (le r.keys) h.0, all_read-most m n rs ss le h.1)

-- ---- what they tell stays

part-stays : (times : ℕ) (r s : SeenReader) → Reads times r s → told_part s ≡ told_part r
part-stays times r s h = ap (λ o. o >>= parts_of) h.file.told

one-stays : (times : ℕ) (r s : SeenReader) → Reads times r s → IsRead r → IsRead s
one-stays times r s h read =
    record {
      told =
          subst (λ o. IfSome o (λ bytes. keys bytes ≡ Some s.keys)) (sym h.file.told)
          (subst (λ k. IfSome r.file.told (λ bytes. keys bytes ≡ Some k)) (sym h.keys) read.told);
      within =
          subst (λ n. AllByRecursion (IsWithin n) s.keys.entries) (sym h.file.size)
          (subst (λ (k : FileKeys). AllByRecursion (IsWithin r.file.size) k.entries) (sym h.keys) read.within);
    }

module _ (times : FileKeys → ℕ) where
  -- readers tell the same parts after they were read
  pub parts-stay : (rs ss : List SeenReader) → AllRead times rs ss → told_parts ss ≡ told_parts rs
  parts-stay [] [] h = refl
  parts-stay [] (s ∷ ss) h = absurd h
  parts-stay (r ∷ rs) [] h = absurd h
  parts-stay (r ∷ rs) (s ∷ ss) h =
      ap₂ (λ o p. o >>= λ y. p >>= λ ys. Some (y ∷ ys)) (part-stays (times r.keys) r s h.0) (parts-stay rs ss h.1)

  -- readers have the same row counts after they were read
  pub counts-stay : (rs ss : List SeenReader) → AllRead times rs ss → counts_read ss ≡ counts_read rs
  counts-stay [] [] h = refl
  counts-stay [] (s ∷ ss) h = absurd h
  counts-stay (r ∷ rs) [] h = absurd h
  counts-stay (r ∷ rs) (s ∷ ss) h = ap₂ (λ n ns. n ∷ ns) (ap (λ k. k.row_count) h.0.keys) (counts-stay rs ss h.1)

  -- readers are read as they were after they were read
  pub read-stays : (rs ss : List SeenReader) → AllRead times rs ss → AllByRecursion IsRead rs → AllByRecursion IsRead ss
  read-stays [] [] h all = tt
  read-stays [] (s ∷ ss) h all = absurd h
  read-stays (r ∷ rs) [] h all = absurd h
  read-stays (r ∷ rs) (s ∷ ss) h all = (one-stays (times r.keys) r s h.0 all.0, read-stays rs ss h.1 all.1)

  -- readers have the same columns after they were read
  pub keys-stay : (rs ss : List SeenReader) → AllRead times rs ss → keys_read ss ≡ keys_read rs
  keys-stay [] [] h = refl
  keys-stay [] (s ∷ ss) h = absurd h
  keys-stay (r ∷ rs) [] h = absurd h
  keys-stay (r ∷ rs) (s ∷ ss) h = ap₂ (λ k ks. k ∷ ks) h.0.keys (keys-stay rs ss h.1)

-- ---- faults

-- the reader at a place, as it was
record WasAt (rs : List SeenReader) (at : ℕ) (now : SeenReader) : Type 0 where
  old : SeenReader
  was : slice_get rs at ≡ Some old
  later : old.file.faults ≤ now.file.faults

was-at : (times : FileKeys → ℕ) (rs ss : List SeenReader) (at : ℕ) (s : SeenReader) → AllRead times rs ss
    → slice_get ss at ≡ Some s → WasAt rs at s
was-at times rs [] at s h e = absurd (some≢none s (sym e))
was-at times [] (x ∷ ss) at s h e = absurd h
was-at times (r ∷ rs) (x ∷ ss) zero s h e =
    record {
      old = r;
      was = refl;
      later = subst (λ (x : SeenReader). r.file.faults ≤ x.file.faults) (same-some x s e) h.0.file.later;
    }
was-at times (r ∷ rs) (x ∷ ss) (suc at) s h e =
    let w = was-at times rs ss at s h.1 e in record { old = w.old; was = w.was; later = w.later }

-- a fault that came after some readings came since before them
pub rose-before : (times : FileKeys → ℕ) (rs ss us : List SeenReader) → AllRead times rs ss → SomeReaderRose ss us → SomeReaderRose rs us
rose-before times rs ss us h k =
    let w = was-at times rs ss k.at k.old h k.was in
    record {
      at = k.at;
      old = w.old;
      new = k.new;
      was = w.was;
      is = k.is;
      rose = rose-later w.old.file.faults k.old.file.faults k.new.file.faults w.later k.rose;
    }

-- ---- one reader in its place

-- from a place on, no reader was read so far
abbrev pub AreLeft : ℕ → List SeenReader → List SeenReader → Type 0
AreLeft at rs ss = drop at ss ≡ drop at rs

-- the reader of the place is as it was
pub left-at : (rs ss : List SeenReader) (at : ℕ) (s : SeenReader) → AreLeft at rs ss → slice_get ss at ≡ Some s → slice_get rs at ≡ Some s
left-at rs ss at s h e = sym (from-drop rs at) ∙ ap (λ xs. slice_get xs 0) (sym h) ∙ from-drop ss at ∙ e
  where
    from-drop : (xs : List SeenReader) (at : ℕ) → slice_get (drop at xs) 0 ≡ slice_get xs at
    from-drop [] zero = refl
    from-drop [] (suc at) = refl
    from-drop (x ∷ xs) zero = refl
    from-drop (x ∷ xs) (suc at) = from-drop xs at

-- to set the reader at a place leaves those behind it as they were
pub left-set : (rs ss : List SeenReader) (at : ℕ) (s : SeenReader) → AreLeft at rs ss → AreLeft (at + 1) rs (set ss at s)
left-set rs ss at s h =
    subst (λ n. AreLeft n rs (set ss at s)) (sym (add-one at))
    (behind ss at s ∙ next ss at ∙ ap (drop 1) h ∙ sym (next rs at))
  where
    behind : (xs : List SeenReader) (at : ℕ) (s : SeenReader) → drop (suc at) (set xs at s) ≡ drop (suc at) xs
    behind [] zero s = refl
    behind [] (suc at) s = refl
    behind (x ∷ xs) zero s = refl
    behind (x ∷ xs) (suc at) s = behind xs at s

    next : (xs : List SeenReader) (at : ℕ) → drop (suc at) xs ≡ drop 1 (drop at xs)
    next [] zero = refl
    next [] (suc at) = refl
    next (x ∷ xs) zero = refl
    next (x ∷ xs) (suc at) = next xs at

get-set : (rs : List SeenReader) (at : ℕ) (r s : SeenReader) → slice_get rs at ≡ Some r → slice_get (set rs at s) at ≡ Some s
get-set [] at r s e = absurd (some≢none r (sym e))
get-set (x ∷ rs) zero r s e = refl
get-set (x ∷ rs) (suc at) r s e = get-set rs at r s e

-- a reader that wasn't read before was read
pub all_read-set : (times : FileKeys → ℕ) (rs ss : List SeenReader) (at : ℕ) (r s : SeenReader)
    → AllRead times rs ss → slice_get rs at ≡ Some r → Reads (times r.keys) r s → AllRead times rs (set ss at s)
all_read-set times [] ss at r s h e k = absurd (some≢none r (sym e))
all_read-set times (x ∷ rs) [] at r s h e k = absurd h
all_read-set times (x ∷ rs) (y ∷ ss) zero r s h e k = (subst (λ (x : SeenReader). Reads (times x.keys) x s) (sym (same-some x r e)) k, h.1)
all_read-set times (x ∷ rs) (y ∷ ss) (suc at) r s h e k = (h.0, all_read-set times rs ss at r s h.1 e k)

-- the reader of a place was read, and none from that place on was read before
pub all_read-at : (times : FileKeys → ℕ) (rs ss : List SeenReader) (at : ℕ) (d s : SeenReader) → AllRead times rs ss
    → AreLeft at rs ss → at < length ss → Reads (times (get_or ss at d).keys) (get_or ss at d) s
    → AllRead times rs (set ss at s)
all_read-at times rs ss at d s h left within k =
    let now = get_or ss at d in
    all_read-set times rs ss at now s h (left-at rs ss at now left (slice_get-get_or ss at d within)) k

-- a reader whose count of faults rose, set in its place, is one of all whose count rose
pub rose-set : (rs ss : List SeenReader) (at : ℕ) (r s : SeenReader) → slice_get rs at ≡ Some r
    → slice_get ss at ≡ Some r → Rose r.file.faults s.file.faults → SomeReaderRose rs (set ss at s)
rose-set rs ss at r s e f k = record { at = at; old = r; new = s; was = e; is = get-set ss at r s f; rose = k }
