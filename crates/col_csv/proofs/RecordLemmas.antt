-- How much the records hold that the kit's reader finds, and that they are of bytes.
use Rattle.std.proofs.Common.{◌≡◌, ℕ, zero, suc, ◌+◌, ◌*◌, ◌≤◌, Bool, true, false, List, [], ◌∷◌, ◌++◌, length, nat_lt, Some, None, refl, ◌∙◌, ap, subst, arith}
use Rattle.std.specs.Prelude.{Option, if◌then◌else◌}
use Rattle.std.specs.List.{list_all}
use Rattle.std.proofs.lemmas.Bool.{and_parts, and_from}
use Rattle.std.proofs.lemmas.List.{length_push}
use Rattle.std.proofs.lemmas.List.Folds.{list_all-append}
use Rattle.std.proofs.lemmas.Option.{none-some, same_Some}
use Rattle.csv.specs.Machine.{Read, next_record, step, is_end, fields_after, field_after, ends_at_end}
use Rattle.csv.specs.Reading.{records_from, records_next}
use Rattle.csv.specs.declared.parser.Action.{Action}
use Rattle.csv.specs.declared.parser.Action.TheVariants as act
use Rattle.csv.specs.declared.parser.Config.{Config}
use Rattle.csv.specs.declared.parser.State.{State}
use Rattle.csv.specs.declared.parser.State.TheVariants as st
use Rattle.col_model.specs.Sound.{are_bytes}

-- what the end of a text gives as a record
abbrev pub last_of : List (List ℕ) → List ℕ → Read
last_of fields field = (fields ++ (field ∷ []), st.StartRecord, [])

-- how many bytes a record has, with one for itself and one for each field
abbrev pub size : List (List ℕ) → ℕ
size [] = 1
size (field ∷ fields) = suc (length field) + size fields

-- how many bytes records have, with one for each and one for each field
abbrev pub total : List (List (List ℕ)) → ℕ
total [] = 0
total (r ∷ rs) = size r + total rs

-- one more field
size-push : (fields : List (List ℕ)) (field : List ℕ) → size (fields ++ (field ∷ [])) ≡ size fields + suc (length field)
size-push [] field = omega arith
size-push (f ∷ fields) field = let later = size-push fields field in omega (arith, later)

-- one more field of bytes
bytes-push : (fields : List (List ℕ)) (field : List ℕ) → list_all are_bytes fields ≡ true → are_bytes field ≡ true
    → list_all are_bytes (fields ++ (field ∷ [])) ≡ true
bytes-push fields field e h =
    list_all-append are_bytes fields (field ∷ []) ∙ and_from _ _ e (and_from _ true h refl)

module _ (cfg : Config) where
  -- the last record of a text
  pub last-read : (s : State) (fields : List (List ℕ)) (field : List ℕ) (p : Read)
      → next_record cfg s fields field [] ≡ Some p → last_of fields field ≡ p
  unfolding next_record
  last-read s fields field p e = by (ends_at_end s) e
    where
      by : (b : Bool) → (if b then Some (last_of fields field) else None) ≡ Some p → last_of fields field ≡ p
      by true e = same_Some (last_of fields field) p e
      by false e = absurd (none-some p e)

  -- what each byte keeps, a record has
  module _
      (P : List (List ℕ) → List ℕ → List ℕ → Type 0)
      (Q : List (List ℕ) → List ℕ → Type 0)
      (copies : (fields : List (List ℕ)) (field : List ℕ) (c : ℕ) (rest : List ℕ) → P fields field (c ∷ rest)
      → P fields (field ++ (c ∷ [])) rest)
      (skips : (fields : List (List ℕ)) (field : List ℕ) (c : ℕ) (rest : List ℕ) → P fields field (c ∷ rest)
      → P fields field rest)
      (ends_field : (fields : List (List ℕ)) (field : List ℕ) (c : ℕ) (rest : List ℕ) → P fields field (c ∷ rest)
      → P (fields ++ (field ∷ [])) [] rest)
      (ends_record : (fields : List (List ℕ)) (field : List ℕ) (c : ℕ) (rest : List ℕ) → P fields field (c ∷ rest)
      → Q (fields ++ (field ∷ [])) rest)
      (ends_text : (fields : List (List ℕ)) (field : List ℕ) → P fields field [] → Q (fields ++ (field ∷ [])) [])
    where
      next-keeps : (s : State) (fields : List (List ℕ)) (field xs : List ℕ) (p : Read)
          → next_record cfg s fields field xs ≡ Some p → P fields field xs → Q p.0 p.2
      unfolding next_record
      next-keeps s fields field [] p e h =
          subst (λ (p : Read). Q p.0 p.2) (last-read s fields field p e) (ends_text fields field h)
      next-keeps s fields field (c ∷ rest) p e h =
          by (step cfg s c).1 e (λ f g. next-keeps (step cfg s c).0 f g rest p)
        where
          by : (a : Action)
              → (if is_end a then Some (fields_after a fields field, (step cfg s c).0, rest)
              else next_record cfg (step cfg s c).0 (fields_after a fields field) (field_after a c field) rest) ≡ Some p
              → ((f : List (List ℕ)) (g : List ℕ) → next_record cfg (step cfg s c).0 f g rest ≡ Some p → P f g rest → Q p.0 p.2)
              → Q p.0 p.2
          by act.Skip e later = later fields field e (skips fields field c rest h)
          by act.Copy e later = later fields (field ++ (c ∷ [])) e (copies fields field c rest h)
          by act.EndField e later = later (fields ++ (field ∷ [])) [] e (ends_field fields field c rest h)
          by act.EndRecord e later =
              let whole : Read = (fields ++ (field ∷ []), (step cfg s c).0, rest) in
              subst (λ (p : Read). Q p.0 p.2) (same_Some whole p e) (ends_record fields field c rest h)

  -- a record takes a byte at least
  pub next-shorter : (s : State) (c : ℕ) (rest : List ℕ) (p : Read) → next_record cfg s [] [] (c ∷ rest) ≡ Some p
      → length p.2 ≤ length rest
  next-shorter s c rest p e =
      next-keeps (λ f g xs. length xs ≤ suc (length rest)) (λ fs xs. length xs ≤ length rest)
      (λ f g c xs h. omega arith) (λ f g c xs h. omega arith) (λ f g c xs h. omega arith) (λ f g c xs h. omega arith)
      (λ f g h. omega arith) s [] [] (c ∷ rest) p e (omega arith)

  -- and has no more bytes and fields than it takes
  next-size : (s : State) (xs : List ℕ) (p : Read) → next_record cfg s [] [] xs ≡ Some p
      → size p.0 + length p.2 ≤ 2 + length xs
  next-size s xs p e =
      next-keeps (λ f g ys. size f + suc (length g) + length ys ≤ 2 + length xs) (λ fs ys. size fs + length ys ≤ 2 + length xs)
      (λ f g c ys h. let e = length_push g c in omega (arith, e, h)) (λ f g c ys h. omega (arith, h))
      (λ f g c ys h. let e = size-push f g in omega (arith, e, h)) (λ f g c ys h. let e = size-push f g in omega (arith, e, h))
      (λ f g h. let e = size-push f g in omega (arith, e, h)) s [] [] xs p e (omega arith)

  -- a record of bytes, and bytes behind it
  record AreBytes (fields : List (List ℕ)) (rest : List ℕ) : Type 0 where
    fields_are : list_all are_bytes fields ≡ true
    rest_are : are_bytes rest ≡ true

  -- the same, with the field at hand
  record AreBytesSo (fields : List (List ℕ)) (field rest : List ℕ) : Type 0 where
    fields_are : list_all are_bytes fields ≡ true
    field_is : are_bytes field ≡ true
    rest_are : are_bytes rest ≡ true

  -- a record of bytes is of bytes, and leaves bytes
  next-bytes : (s : State) (xs : List ℕ) (p : Read) → next_record cfg s [] [] xs ≡ Some p → are_bytes xs ≡ true
      → AreBytes p.0 p.2
  next-bytes s xs p e h =
      next-keeps AreBytesSo AreBytes
      (λ f g c ys a. let b = and_parts _ (are_bytes ys) a.rest_are in record {
        fields_are = a.fields_are;
        field_is = list_all-append (λ x. nat_lt x 256) g (c ∷ []) ∙ and_from _ _ a.field_is (and_from _ true b.0 refl);
        rest_are = b.1;
      })
      (λ f g c ys a. record {
        fields_are = a.fields_are;
        field_is = a.field_is;
        rest_are = (and_parts _ (are_bytes ys) a.rest_are).1;
      })
      (λ f g c ys a. record {
        fields_are = bytes-push f g a.fields_are a.field_is;
        field_is = refl;
        rest_are = (and_parts _ (are_bytes ys) a.rest_are).1;
      })
      (λ f g c ys a. record {
        fields_are = bytes-push f g a.fields_are a.field_is;
        rest_are = (and_parts _ (are_bytes ys) a.rest_are).1;
      })
      (λ f g a. record { fields_are = bytes-push f g a.fields_are a.field_is; rest_are = refl })
      s [] [] xs p e (record { fields_are = refl; field_is = refl; rest_are = h })

  -- ---- all records

  -- no record stands behind a text
  none-behind : (n : ℕ) → records_from cfg n st.StartRecord [] ≡ []
  unfolding records_from next_record
  none-behind zero = refl
  none-behind (suc n) = refl

  -- the records of a text hold at most three times as much as the text
  pub records-size : (n : ℕ) (s : State) (xs : List ℕ) → total (records_from cfg n s xs) ≤ 3 * length xs + 2
  unfolding records_from
  records-size zero s xs = omega arith
  records-size (suc n) s [] = by (next_record cfg s [] [] []) refl
    where
      by : (o : Option Read) → next_record cfg s [] [] [] ≡ o → total (records_next (records_from cfg n) o) ≤ 2
      by None e = omega arith
      by (Some p) e =
          subst (λ (p : Read). size p.0 + total (records_from cfg n p.1 p.2) ≤ 2) (last-read s [] [] p e)
          (let none = ap total (none-behind n) in omega (arith, none))
  records-size (suc n) s (c ∷ rest) = by (next_record cfg s [] [] (c ∷ rest)) refl (records-size n)
    where
      by : (o : Option Read) → next_record cfg s [] [] (c ∷ rest) ≡ o
          → ((s : State) (xs : List ℕ) → total (records_from cfg n s xs) ≤ 3 * length xs + 2)
          → total (records_next (records_from cfg n) o) ≤ 3 * suc (length rest) + 2
      by None e later = omega arith
      by (Some p) e later =
          let a = next-shorter s c rest p e in
          let b = next-size s (c ∷ rest) p e in
          let l = later p.1 p.2 in
          omega (arith, a, b, l)

  -- the records of bytes are of bytes
  pub records-bytes : (n : ℕ) (s : State) (xs : List ℕ) → are_bytes xs ≡ true
      → list_all (list_all are_bytes) (records_from cfg n s xs) ≡ true
  unfolding records_from
  records-bytes zero s xs h = refl
  records-bytes (suc n) s xs h = by (next_record cfg s [] [] xs) refl (records-bytes n)
    where
      by : (o : Option Read) → next_record cfg s [] [] xs ≡ o
          → ((s : State) (xs : List ℕ) → are_bytes xs ≡ true → list_all (list_all are_bytes) (records_from cfg n s xs) ≡ true)
          → list_all (list_all are_bytes) (records_next (records_from cfg n) o) ≡ true
      by None e later = refl
      by (Some p) e later =
          let b = next-bytes s xs p e h in
          and_from _ _ b.fields_are (later p.1 p.2 b.rest_are)
