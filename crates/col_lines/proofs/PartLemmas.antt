-- Parts of lines: lists item by item.
use Rattle.std.proofs.Common.{◌≡◌, ℕ, ◌+◌, List, [], ◌∷◌, ◌++◌, map, drop, Option, Some, None, option_map, refl, sym, ◌∙◌, ap, append_assoc}
use Rattle.std.proofs.lemmas.List.{map-append}
use Rattle.serde_json.specs.Data.{Data}
use Rattle.serde_json.specs.View.{view, items_of}
use Rattle.serde_json.specs.declared.value.Value.{Value}
use Rattle.col_common.specs.Reading.{◌>>=◌}
use Rattle.col_common.specs.declared.row.RowAddr.{RowAddr}
use Rattle.col_model.specs.File.{for_each}
use Rattle.col_program.specs.Script.{as_address}
use Rattle.col_program.specs.Values.{items_list}
use Rattle.col_order.specs.Orders.{address_of}

-- what is read of the items that are left, behind what was read
abbrev pub behind : {B : Type 0} → List B → Option (List B) → Option (List B)
behind done rest = option_map (λ ys. done ++ ys) rest

module _ {A B : Type 0} (f : A → Option B) (done : List B) where
  -- one more is read
  pub behind-one : (x : A) (xs : List A) (y : B) → Some y ≡ f x
      → behind done (for_each f (x ∷ xs)) ≡ behind (done ++ y ∷ []) (for_each f xs)
  behind-one x xs y e = rw (← e) (go (for_each f xs))
    where
      go : (o : Option (List B)) → behind done (o >>= λ ys. Some (y ∷ ys)) ≡ behind (done ++ y ∷ []) o
      go None = refl
      go (Some ys) = ap Some (sym (append_assoc done (y ∷ []) ys))

-- the items of an array
pub items_same : (ds : List Data) → items_list (items_of ds) ≡ ds
items_same [] = refl
items_same (d ∷ ds) = ap (λ es. d ∷ es) (items_same ds)

-- one more row
pub more_rows :
    (vs : List Value) (i : ℕ) (v : Value) (done more : List RowAddr) (row : RowAddr) (whole : Option (List (ℕ × ℕ)))
    → drop i vs ≡ v ∷ drop (i + 1) vs → Some (address_of row) ≡ as_address (view v) → more ≡ done ++ row ∷ []
    → behind (map address_of done) (for_each as_address (map view (drop i vs))) ≡ whole
    → behind (map address_of more) (for_each as_address (map view (drop (i + 1) vs))) ≡ whole
more_rows vs i v done more row whole split read grown inv =
    let rest : List Data = map view (drop (i + 1) vs) in
    ap (λ ds. behind ds (for_each as_address rest)) (ap (map address_of) grown ∙ map-append address_of done (row ∷ []))
    ∙ sym (behind-one as_address (map address_of done) (view v) rest (address_of row) read)
    ∙ sym (ap (λ xs. behind (map address_of done) (for_each as_address (map view xs))) split)
    ∙ inv
