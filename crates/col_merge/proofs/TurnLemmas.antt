-- One slot after another.
use Rattle.std.proofs.Common.{◌≡◌, ℕ, ◌+◌, ◌≤◌, ◌<◌, List, [], ◌∷◌, ◌++◌, map, filter_map, length, take, drop, get_or, zero, suc, add-one, Option, Some, None, IfSome, option_map, Result, Ok, Err, refl, sym, ap, ap₂, ◌∙◌, subst, arith, append-nil, append_assoc}
use Rattle.std.proofs.lemmas.List.{map-append}
use Rattle.std.proofs.lemmas.List.Elements.{filter_map-append}
use Rattle.col_common.specs.Outside.{SeenSink}
use Rattle.col_common.specs.declared.error.ColumnarError.{ColumnarError}
use Rattle.col_common.specs.declared.error.ColumnarError.TheVariants.{OutOfMemory, ReadFault, WriteFault, InvalidData, BadOrder, BadName, RequiredConflict, CannotCoerce, NumericalConflict, TooLarge, NoCodec, ForcedType, DocOrder, DocOutOfRange, TieBreakerStart, NotUtf8}
use Rattle.col_model.specs.Category.{Slot}
use Rattle.col_model.specs.File.{Part, part_of_column}
use Rattle.col_model.specs.Keys.{Key, FileKeys}
use Rattle.col_model.specs.Refusal.{Refusal, each_ok}
use Rattle.col_model.specs.Table.{Column}
use Rattle.col_model.proofs.RefusalLaws.{each-push}
use Rattle.col_keys.specs.Put.{PutColumns, no_columns, HavePut, part_put}
use Rattle.col_keys.proofs.PutLemmas.{have-none, have-more}
use Rattle.col_file.specs.Readers.{SeenReader}
use Rattle.col_merge_plan.proofs.ListLemmas.{taken}
use Rattle.col_merge.specs.Parts.{told_parts}
use Rattle.col_merge.specs.Readings.{AllRead}
use Rattle.col_merge.specs.Turns.{RefusesParts, RefusesMerge, IsLaterSink, PutsOne, IsPutAs, MergedOne, ArePutAs, MergedSoFar}
use Rattle.col_merge.proofs.EachLemmas.{each-stops}
use Rattle.col_file.proofs.ReadLemmas.{rose-later}
use Rattle.col_merge.proofs.ReadingLemmas.{rose-before, parts-stay}

-- ---- what is told

-- what follows of the parts, where they are told
told-then : {P Q : List Part → Type 0} (o : Option (List Part)) → IfSome o P → ((parts : List Part) → P parts → Q parts) → IfSome o Q
told-then None h f = tt
told-then (Some parts) h f = f parts h

told-both : {P Q R : List Part → Type 0} (o : Option (List Part)) → IfSome o P → IfSome o Q
    → ((parts : List Part) → P parts → Q parts → R parts) → IfSome o R
told-both None h k f = tt
told-both (Some parts) h k f = f parts h k

-- ---- sinks

-- a sink is no earlier than itself
pub goes-itself : (a : SeenSink) → IsLaterSink a a
goes-itself a = record { grown = ([], nothing a.written); later = omega arith }
  where
    nothing : (o : Option (List ℕ)) → o ≡ option_map (λ held. held ++ []) o
    nothing None = refl
    nothing (Some held) = ap Some (sym (append-nil held))

-- a sink that is later than a later one is later
pub goes-then : (a b c : SeenSink) → IsLaterSink a b → IsLaterSink b c → IsLaterSink a c
goes-then a b c h k =
    record {
      grown =
          (h.grown.0 ++ k.grown.0, k.grown.1 ∙ ap (option_map (λ held. held ++ k.grown.0)) h.grown.1 ∙ joined a.written);
      later = omega (arith, h.later, k.later);
    }
  where
    joined : (o : Option (List ℕ))
        → option_map (λ held. held ++ k.grown.0) (option_map (λ held. held ++ h.grown.0) o)
        ≡ option_map (λ held. held ++ (h.grown.0 ++ k.grown.0)) o
    joined None = refl
    joined (Some held) = ap Some (append_assoc held h.grown.0 k.grown.0)

-- ---- refusals

-- the answer stands for a refusal, and no fault of the outside
module _ {A B : Type 0} (times : FileKeys → ℕ) (olds mids news : List SeenReader) (start a b : SeenSink)
    (stay : AllRead times olds mids) (went : IsLaterSink start a) (expected : List Part → Result A Refusal)
    (whole : List Part → Result B Refusal) (stops : (refusal : Refusal)
    → IfSome (told_parts olds) (λ parts. expected parts ≡ Err refusal → whole parts ≡ Err refusal)) where
  parts-refused : (e : ColumnarError) → RefusesParts mids e expected → RefusesParts olds e whole
  parts-refused e h = record {
    refusal = h.refusal;
    is = h.is;
    told =
        told-both (told_parts olds)
        (subst (λ o. IfSome o (λ parts. expected parts ≡ Err h.refusal)) (parts-stay times olds mids stay) h.told)
        (stops h.refusal) (λ parts p q. q p);
  }

  -- a refusal of a step is one of the whole
  pub merge-refused : (e : ColumnarError) → RefusesMerge mids news a b e expected → RefusesMerge olds news start b e whole
  merge-refused OutOfMemory h = tt
  merge-refused ReadFault h = rose-before times olds mids news stay h
  merge-refused WriteFault h = rose-later start.faults a.faults b.faults went.later h
  merge-refused InvalidData h = parts-refused InvalidData h
  merge-refused BadOrder h = parts-refused BadOrder h
  merge-refused BadName h = parts-refused BadName h
  merge-refused RequiredConflict h = parts-refused RequiredConflict h
  merge-refused CannotCoerce h = parts-refused CannotCoerce h
  merge-refused NumericalConflict h = parts-refused NumericalConflict h
  merge-refused TooLarge h = parts-refused TooLarge h
  merge-refused NoCodec h = parts-refused NoCodec h
  merge-refused ForcedType h = parts-refused ForcedType h
  merge-refused DocOrder h = parts-refused DocOrder h
  merge-refused DocOutOfRange h = parts-refused DocOutOfRange h
  merge-refused TieBreakerStart h = parts-refused TieBreakerStart h
  merge-refused NotUtf8 h = parts-refused NotUtf8 h

-- ---- slots so far

-- what one slot adds to the columns
abbrev with_one : List (Key × List ℕ) → Option (Key × List ℕ) → List (Key × List ℕ)
with_one ps None = ps
with_one ps (Some p) = ps ++ p ∷ []

one-have : (start a b : SeenSink) (old new : PutColumns) (ps : List (Key × List ℕ)) (one : Option (Key × List ℕ))
    → HavePut start a old ps → PutsOne old new a b one → HavePut start b new (with_one ps one)
one-have start a b old new ps None have put =
    subst (λ b. HavePut start b new ps) (sym put.1) (subst (λ c. HavePut start a c ps) (sym put.0) have)
one-have start a b old new ps (Some p) have put = have-more start a b old new ps p.0 p.1 tt have put

-- the columns of the slots so far, and of one more
module _ (n : ℕ) (f : Slot → Result (Option Column) Refusal) (slots : List Slot) (slot : Slot) (ps : List (Key × List ℕ)) where
  one-put : (one : Option (Key × List ℕ)) (cs : List (Option Column)) → each_ok f slots ≡ Ok cs
      → map (part_put n) ps ≡ map part_of_column (filter_map (λ c. c) cs) → IsPutAs n one (f slot)
      → ArePutAs n (with_one ps one) (each_ok f (slots ++ slot ∷ []))
  one-put None cs e same is =
      rw (each-push f slots slot cs None e is) (same
      ∙ ap (map part_of_column)
      (sym (filter_map-append (λ c. c) cs (None ∷ []) ∙ append-nil (filter_map (λ c. c) cs))))
  one-put (Some p) cs e same is = rw (each-push f slots slot cs (Some is.0) e is.1)
      (map-append (part_put n) ps (p ∷ []) ∙ ap₂ (λ xs x. xs ++ x ∷ []) same is.2
      ∙ sym (map-append part_of_column (filter_map (λ c. c) cs) (is.0 ∷ []))
      ∙ ap (map part_of_column) (sym (filter_map-append (λ c. c) cs (Some is.0 ∷ []))))

  put-more : (one : Option (Key × List ℕ)) (r : Result (List (Option Column)) Refusal) → each_ok f slots ≡ r
      → ArePutAs n ps r → IsPutAs n one (f slot) → ArePutAs n (with_one ps one) (each_ok f (slots ++ slot ∷ []))
  put-more one (Ok cs) e was is = one-put one cs e was is
  put-more one (Err refusal) e was is = absurd was

  -- the refusal of the first slot that isn't merged
  put-stops : (left : List Slot) (refusal : Refusal) (r : Result (List (Option Column)) Refusal)
      → each_ok f slots ≡ r → ArePutAs n ps r → f slot ≡ Err refusal
      → each_ok f (slots ++ slot ∷ left) ≡ Err refusal
  put-stops left refusal (Ok cs) e was is = each-stops f slots slot left cs refusal e is
  put-stops left refusal (Err other) e was is = absurd was

-- before the first slot nothing is merged
pub slots-none :
    (rs : List SeenReader) (start : SeenSink) (n : ℕ) (expected : List Part → Slot → Result (Option Column) Refusal)
    → MergedSoFar rs start start no_columns n expected []
slots-none rs start n expected = record { ps = []; put = have-none start; told = all (told_parts rs) }
  where
    all : (o : Option (List Part)) → IfSome o (λ parts. ArePutAs n [] (each_ok (expected parts) []))
    all None = tt
    all (Some parts) = refl

module _ (times : FileKeys → ℕ) (olds mids : List SeenReader) (start a b : SeenSink) (old new : PutColumns) (n : ℕ)
    (expected : List Part → Slot → Result (Option Column) Refusal) (slots : List Slot) (slot : Slot)
    (was : MergedSoFar olds start a old n expected slots) (stay : AllRead times olds mids) where
  pub slots-more : MergedOne mids old new a b n (λ parts. expected parts slot)
      → MergedSoFar olds start b new n expected (slots ++ slot ∷ [])
  slots-more h = record {
    ps = with_one was.ps h.one;
    put = one-have start a b old new was.ps h.one was.put h.put;
    told =
        told-both (told_parts olds) was.told (subst (λ o. IfSome o (λ parts. IsPutAs n h.one (expected parts slot)))
        (parts-stay times olds mids stay) h.told) (λ parts p q. put-more n (expected parts) slots slot was.ps h.one
        (each_ok (expected parts) slots) refl p q);
  }

  pub slots-refused : (news : List SeenReader) (left : List Slot) (e : ColumnarError)
      → RefusesMerge mids news a b e (λ parts. expected parts slot)
      → RefusesMerge olds news start b e (λ parts. each_ok (expected parts) (slots ++ slot ∷ left))
  slots-refused news left e h =
      merge-refused times olds mids news start a b stay
      (record { grown = was.put.written.grown; later = was.put.written.later }) (λ parts. expected parts slot)
      (λ parts. each_ok (expected parts) (slots ++ slot ∷ left)) (λ refusal. told-then (told_parts olds) was.told (
      λ parts p q. put-stops n (expected parts) slots slot was.ps left refusal (each_ok (expected parts) slots) refl
      p q)) e h

-- ---- a turn of the loop

parted : {A : Type 0} (xs : List A) (i : ℕ) (x : A) → i < length xs → x ≡ get_or xs i x → take i xs ++ x ∷ drop (suc i) xs ≡ xs
parted [] i x h e = absurd (omega arith)
parted (y ∷ xs) zero x h e = ap (λ z. z ∷ xs) e
parted (y ∷ xs) (suc i) x h e = ap (λ ys. y ∷ ys) (parted xs i x (omega (arith, h)) e)

-- the first items of a list, at least as many as there are, are all
pub all-taken : {A : Type 0} (xs : List A) (i : ℕ) → length xs ≤ i → take i xs ≡ xs
all-taken [] zero h = refl
all-taken [] (suc i) h = refl
all-taken (x ∷ xs) zero h = absurd (omega arith)
all-taken (x ∷ xs) (suc i) h = ap (λ ys. x ∷ ys) (all-taken xs i (omega (arith, h)))

module _ (times : FileKeys → ℕ) (olds mids : List SeenReader) (start a b : SeenSink) (old new : PutColumns) (n : ℕ)
    (expected : List Part → Slot → Result (Option Column) Refusal) (all : List Slot) (i : ℕ) (slot : Slot)
    (within : i < length all) (is : slot ≡ get_or all i slot) (was : MergedSoFar olds start a old n expected
    (take i all)) (stay : AllRead times olds mids) where
  -- the slot of a turn was merged
  pub turn-more : MergedOne mids old new a b n (λ parts. expected parts slot) → MergedSoFar olds start b new n expected (take (i + 1) all)
  turn-more h =
      subst (λ ss. MergedSoFar olds start b new n expected ss)
      (sym (taken all i (i + 1) slot (add-one i) within is))
      (slots-more times olds mids start a b old new n expected (take i all) slot was stay h)

  -- the slot of a turn was refused
  pub turn-refused : (news : List SeenReader) (e : ColumnarError)
      → RefusesMerge mids news a b e (λ parts. expected parts slot)
      → RefusesMerge olds news start b e (λ parts. each_ok (expected parts) all)
  turn-refused news e h =
      subst (λ ss. RefusesMerge olds news start b e (λ parts. each_ok (expected parts) ss))
      (parted all i slot within is) (slots-refused times olds mids start a b old new n expected (take i all) slot
      was stay news (drop (suc i) all) e h)
