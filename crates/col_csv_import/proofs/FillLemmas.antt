-- Columns that are filled one after another with the fields of a record.
use Rattle.std.proofs.Common.{◌≡◌, ◌∙◌, ◌<◌, ◌≤◌, ◌+◌, ℕ, zero, suc, List, [], ◌∷◌, ◌++◌, length, take, drop, get_or, set, Some, None, refl, sym, ap, ap₂, subst, arith, add-one, append_assoc, append-nil, drop-cons}
use Rattle.std.specs.Prelude.{Option}
use Rattle.std.specs.List.{AllByRecursion}
use Rattle.std.proofs.lemmas.List.{drop-set-lt, take_all}
use Rattle.std.proofs.Math.Seq.{take-suc-set}
use Rattle.col_common.specs.Reading.{◌>>=◌}
use Rattle.col_csv.specs.declared.csv_error.CsvError.{CsvError}
use Rattle.col_csv.specs.declared.csv_error.CsvError.TheVariants.{OutOfMemory, BadCsv}
use Rattle.col_model.proofs.ListLaws.{all_push}
use Rattle.col_csv_import.specs.Columns.{FilledColumn, HasRoom, with_field}
use Rattle.col_csv_import.specs.Made.{IsRefused}
use Rattle.col_csv_import.specs.Rows.{with_fields}
use Rattle.col_csv_import.proofs.RowLemmas.{field-room}

-- those behind others
abbrev pub behind : {X : Type 0} → List X → List X → Option (List X)
behind front xs = Some (front ++ xs)

-- the columns before a place have their fields, and the others are as they were
pub record IsFilling (d : ℕ) (fields : List (List ℕ)) (all cs : List FilledColumn) (i : ℕ) : Type 0 where
  pub made : with_fields d fields 1 all ≡ (with_fields d fields (i + 1) (drop i cs) >>= behind (take i cs))
  pub done : AllByRecursion (HasRoom (d + 1)) (take i cs)
  pub left : AllByRecursion (HasRoom d) (drop i cs)

-- none is filled yet
pub filling-start : (d : ℕ) (fields : List (List ℕ)) (cs : List FilledColumn) → AllByRecursion (HasRoom d) cs
    → IsFilling d fields cs cs 0
filling-start d fields cs room = record { made = by (with_fields d fields 1 cs); done = tt; left = room }
  where
    by : (o : Option (List FilledColumn)) → o ≡ (o >>= behind [])
    by None = refl
    by (Some xs) = refl

module _ (d : ℕ) (fields : List (List ℕ)) (all cs : List FilledColumn) (i : ℕ) (h : IsFilling d fields all cs i)
    (within : i < length cs) (x : FilledColumn) where
  rest : List FilledColumn
  rest = drop (suc i) cs

  cut : drop i cs ≡ get_or cs i x ∷ rest
  unfolding rest
  cut = drop-cons cs i x within

  -- the column at the place has room
  pub filling-room : HasRoom d (get_or cs i x)
  filling-room = (subst (AllByRecursion (HasRoom d)) cut h.left).0

  -- its field isn't one
  pub filling-bad : with_field d (get_or fields (i + 1) []) (get_or cs i x) ≡ None → with_fields d fields 1 all ≡ None
  unfolding with_fields
  filling-bad none =
      h.made ∙ ap (λ ds. with_fields d fields (i + 1) ds >>= behind (take i cs)) cut
      ∙ ap (λ o. (o >>= λ y. with_fields d fields (i + 1 + 1) rest >>= λ ys. Some (y ∷ ys)) >>= behind (take i cs)) none

  -- its field is refused
  pub filling-refused : (e : CsvError) → IsRefused e (with_field d (get_or fields (i + 1) []) (get_or cs i x))
      → IsRefused e (with_fields d fields 1 all)
  filling-refused OutOfMemory m = tt
  filling-refused BadCsv m = filling-bad m
  filling-refused _ m = absurd m

  joined : (y : FilledColumn) (o : Option (List FilledColumn))
      → ((o >>= λ ys. Some (y ∷ ys)) >>= behind (take i cs)) ≡ (o >>= behind (take i cs ++ (y ∷ [])))
  joined y None = refl
  joined y (Some ys) = ap Some (sym (append_assoc (take i cs) (y ∷ []) ys))

  -- it has its field
  pub filling-more : (y : FilledColumn) → with_field d (get_or fields (i + 1) []) (get_or cs i x) ≡ Some y
      → IsFilling d fields all (set cs i y) (i + 1)
  unfolding with_fields rest
  filling-more y some =
      let front : take (i + 1) (set cs i y) ≡ take i cs ++ (y ∷ []) = rw (add-one i) (take-suc-set cs i y within) in
      let back : drop (i + 1) (set cs i y) ≡ rest = rw (add-one i) (drop-set-lt (suc i) cs i y (omega arith)) in
      record {
        made =
            h.made ∙ ap (λ ds. with_fields d fields (i + 1) ds >>= behind (take i cs)) cut
            ∙ ap (λ o. (o >>= λ y. with_fields d fields (i + 1 + 1) rest >>= λ ys. Some (y ∷ ys)) >>= behind (take i cs)) some
            ∙ joined y (with_fields d fields (i + 1 + 1) rest)
            ∙ sym (ap₂ (λ ds es. with_fields d fields (i + 1 + 1) ds >>= behind es) back front);
        done = subst (AllByRecursion (HasRoom (d + 1))) (sym front)
            (all_push (HasRoom (d + 1)) (take i cs) y h.done (field-room d (get_or fields (i + 1) []) (get_or cs i x) y filling-room some));
        left = subst (AllByRecursion (HasRoom d)) (sym back) (subst (AllByRecursion (HasRoom d)) cut h.left).1;
      }

-- no column is left
pub record IsFull (d : ℕ) (fields : List (List ℕ)) (all cs : List FilledColumn) : Type 0 where
  pub made : with_fields d fields 1 all ≡ Some cs
  pub room : AllByRecursion (HasRoom (d + 1)) cs

-- nothing is left behind the last item
pub no-more : {X : Type 0} (i : ℕ) (xs : List X) → length xs ≤ i → drop i xs ≡ []
no-more zero [] h = refl
no-more (suc i) [] h = refl
no-more zero (x ∷ xs) h = absurd (omega arith)
no-more (suc i) (x ∷ xs) h = no-more i xs (omega arith)

pub filling-end : (d : ℕ) (fields : List (List ℕ)) (all cs : List FilledColumn) (i : ℕ) → length cs ≤ i
    → IsFilling d fields all cs i → IsFull d fields all cs
unfolding with_fields
filling-end d fields all cs i past h =
    let front = take_all i cs past in
    record {
      made =
          h.made ∙ ap₂ (λ ds es. with_fields d fields (i + 1) ds >>= behind es) (no-more i cs past) front
          ∙ ap Some (append-nil cs);
      room = subst (AllByRecursion (HasRoom (d + 1))) front h.done;
    }
