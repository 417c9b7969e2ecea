-- Headings that are read, and whose slots rise.
use Rattle.std.proofs.Common.{◌≡◌, ◌∙◌, ◌<◌, ◌≤◌, ◌+◌, ◌&&◌, ℕ, suc, Bool, true, false, List, [], ◌∷◌, ◌++◌, map, length, drop, get_or, codes, bytes_eq, Some, None, refl, sym, ap, arith, add-one, append_assoc, append-nil, drop-cons, length-drop}
use Rattle.std.specs.Prelude.{Option, option_map}
use Rattle.std.specs.List.{list_all}
use Rattle.std.specs.Ordering.{is_lt}
use Rattle.std.proofs.lemmas.Bool.{false≢true}
use Rattle.std.proofs.lemmas.List.{map-append}
use Rattle.std.proofs.lemmas.List.Folds.{list_all-map}
use Rattle.col_common.specs.Ascending.{all_adjacent}
use Rattle.col_common.specs.Reading.{◌>>=◌, only_if}
use Rattle.col_csv.specs.CsvTable.{key_of_heading, keys_of_header}
use Rattle.col_model.specs.Category.{slot_cmp}
use Rattle.col_model.specs.File.{for_each}
use Rattle.col_model.specs.Keys.{Key, are_keys, is_name}
use Rattle.col_model.proofs.ListLaws.{map-map}
use Rattle.col_csv_import.specs.Columns.{FilledColumn, no_values}
use Rattle.col_csv_import.specs.Headings.{heading_key, heading_slot}
use Rattle.col_csv_import.specs.declared.headings.Heading.{Heading}
use Rattle.col_csv_import.proofs.FillLemmas.{behind, no-more}
use Rattle.col_csv_import.proofs.HeaderLemmas.{headings-named}
use Rattle.col_csv_import.proofs.KeyLemmas.{key_slot, slots_rise}
use Rattle.col_csv_import.proofs.SlotLemmas.{keys-test}

-- the slot of the first stands before that of the second
abbrev pub headings_rise : Heading → Heading → Bool
headings_rise a b = is_lt (slot_cmp (heading_slot a) (heading_slot b))

-- ---- keys of one file

-- neighbours among keys are neighbours among headings
keys-adjacent : (hs : List Heading) → all_adjacent slots_rise (map key_slot (map heading_key hs)) ≡ all_adjacent headings_rise hs
keys-adjacent [] = refl
keys-adjacent (h ∷ []) = refl
keys-adjacent (h ∷ g ∷ hs) = ap (λ b. headings_rise h g && b) (keys-adjacent (g ∷ hs))

-- headings whose slots rise are those of one file
pub headings-test : (hs : List Heading) → list_all (λ h. is_name (heading_key h).name) hs ≡ true
    → all_adjacent headings_rise hs ≡ are_keys (map heading_key hs)
headings-test hs named =
    sym (keys-adjacent hs)
    ∙ keys-test (map heading_key hs) (list_all-map (λ (k : Key). is_name k.name) heading_key hs ∙ named)

module _ {A : Type 0} (test : A → A → Bool) where
  -- the pair at a place fails
  pub adjacent-fails : (xs : List A) (i j : ℕ) (d e : A) → j ≡ suc i → j < length xs
      → all_adjacent test (drop i xs) ≡ all_adjacent test xs → test (get_or xs i d) (get_or xs j e) ≡ false
      → all_adjacent test xs ≡ false
  adjacent-fails xs i j d e next h before fails =
      let cut : drop i xs ≡ get_or xs i d ∷ get_or xs j e ∷ drop (suc j) xs =
      drop-cons xs i d (omega arith)
      ∙ ap (λ ys. get_or xs i d ∷ ys) (ap (λ k. drop k xs) (sym next) ∙ drop-cons xs j e h) in
      sym before ∙ ap (all_adjacent test) cut
      ∙ ap (λ b. b && all_adjacent test (get_or xs j e ∷ drop (suc j) xs)) fails

  one-left : (xs : List A) → length xs ≤ 1 → all_adjacent test xs ≡ true
  one-left [] h = refl
  one-left (x ∷ []) h = refl
  one-left (x ∷ y ∷ xs) h = absurd (omega arith)

  -- no pair is left
  pub adjacent-done : (xs : List A) (i : ℕ) → length xs ≤ suc i → all_adjacent test (drop i xs) ≡ all_adjacent test xs
      → all_adjacent test xs ≡ true
  adjacent-done xs i h before = sym before ∙ one-left (drop i xs) (omega (arith, length-drop i xs))

-- ---- reading

-- so many headings were read
abbrev pub AreRead : List (List ℕ) → ℕ → List Heading → Type 0
AreRead fields i found = for_each key_of_heading (drop 1 fields)
    ≡ (for_each key_of_heading (drop i fields) >>= behind (map heading_key found))

-- none yet
pub read-start : (fields : List (List ℕ)) → AreRead fields 1 []
read-start fields = by (for_each key_of_heading (drop 1 fields))
  where
    by : (o : Option (List Key)) → o ≡ (o >>= behind [])
    by None = refl
    by (Some ks) = refl

module _ (fields : List (List ℕ)) (i : ℕ) (found : List Heading) (h : AreRead fields i found) (within : i < length fields) where
  step : (o : Option Key) → key_of_heading (get_or fields i []) ≡ o → for_each key_of_heading (drop 1 fields)
      ≡ ((o >>= λ k. for_each key_of_heading (drop (suc i) fields) >>= λ ks. Some (k ∷ ks)) >>= behind (map heading_key found))
  step o e =
      h ∙ ap (λ fs. for_each key_of_heading fs >>= behind (map heading_key found)) (drop-cons fields i [] within)
      ∙ ap (λ o. (o >>= λ k. for_each key_of_heading (drop (suc i) fields) >>= λ ks. Some (k ∷ ks)) >>= behind (map heading_key found)) e

  -- the next one isn't a key
  pub read-bad : (field : List ℕ) → field ≡ get_or fields i [] → None ≡ key_of_heading field
      → for_each key_of_heading (drop 1 fields) ≡ None
  read-bad field at none = step None (ap key_of_heading (sym at) ∙ sym none)

  joined : (k : Key) (o : Option (List Key)) → ((o >>= λ ks. Some (k ∷ ks)) >>= behind (map heading_key found))
      ≡ (o >>= behind (map heading_key found ++ (k ∷ [])))
  joined k None = refl
  joined k (Some ks) = ap Some (sym (append_assoc (map heading_key found) (k ∷ []) ks))

  -- the next one is a key
  pub read-more : (field : List ℕ) (g : Heading) → field ≡ get_or fields i [] → Some (heading_key g) ≡ key_of_heading field
      → AreRead fields (i + 1) (found ++ g ∷ [])
  read-more field g at some =
      step (Some (heading_key g)) (ap key_of_heading (sym at) ∙ sym some)
      ∙ joined (heading_key g) (for_each key_of_heading (drop (suc i) fields))
      ∙ ap (λ ks. for_each key_of_heading (drop (suc i) fields) >>= behind ks) (sym (map-append heading_key found (g ∷ [])))
      ∙ ap (λ j. for_each key_of_heading (drop j fields) >>= behind (map heading_key (found ++ g ∷ []))) (sym (add-one i))

-- no heading is left
pub read-end : (fields : List (List ℕ)) (i : ℕ) (found : List Heading) → length fields ≤ i → AreRead fields i found
    → for_each key_of_heading (drop 1 fields) ≡ Some (map heading_key found)
read-end fields i found past h =
    h ∙ ap (λ fs. for_each key_of_heading fs >>= behind (map heading_key found)) (no-more i fields past)
    ∙ ap Some (append-nil (map heading_key found))

-- the headings that were read have names
pub spelled-named : (fields : List (List ℕ)) (hs gs : List Heading) → gs ≡ hs
    → for_each key_of_heading (drop 1 fields) ≡ Some (map heading_key hs)
    → list_all (λ h. is_name (heading_key h).name) gs ≡ true
spelled-named fields hs gs same e =
    ap (list_all (λ h. is_name (heading_key h).name)) same
    ∙ sym (list_all-map (λ (k : Key). is_name k.name) heading_key hs) ∙ headings-named (drop 1 fields) (map heading_key hs) e

-- ---- the first record

-- the keys of a first record that has its mark, and keys of one file
header-keys : (fields : List (List ℕ)) (ks : List Key) (marked keys : Bool) → marked ≡ bytes_eq (get_or fields 0 []) (codes "#")
    → marked ≡ true → for_each key_of_heading (drop 1 fields) ≡ Some ks → keys ≡ are_keys ks → keys ≡ true
    → keys_of_header fields ≡ Some ks
header-keys [] ks marked keys m set e k h = absurd (false≢true (sym m ∙ set))
header-keys (mark ∷ headings) ks marked keys m set e k h =
    let test : Bool → Bool → Option (List Key) = λ a b. only_if (a && b) ks in
    ap (λ o. o >>= λ ks. only_if (bytes_eq mark (codes "#") && are_keys ks) ks) e
    ∙ ap (λ a. test a (are_keys ks)) (sym m ∙ set) ∙ ap (test true) (sym k ∙ h)

-- the columns of the first record
pub header-made : (fields : List (List ℕ)) (hs gs fs : List Heading) (cs : List FilledColumn) (marked keys : Bool)
    → marked ≡ bytes_eq (get_or fields 0 []) (codes "#") → marked ≡ true
    → for_each key_of_heading (drop 1 fields) ≡ Some (map heading_key hs) → gs ≡ hs → keys ≡ are_keys (map heading_key gs)
    → keys ≡ true → fs ≡ hs → cs ≡ map (λ h. no_values (heading_key h)) fs
    → option_map (map no_values) (keys_of_header fields) ≡ Some cs
header-made fields hs gs fs cs marked keys m set e same k h again made =
    ap (option_map (map no_values))
    (header-keys fields (map heading_key hs) marked keys m set e (k ∙ ap (λ hs. are_keys (map heading_key hs)) same) h)
    ∙ ap Some (map-map no_values heading_key hs ∙ sym (made ∙ ap (map (λ h. no_values (heading_key h))) again))
