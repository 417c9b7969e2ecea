-- Lists of the columns of a file.
use Rattle.std.proofs.Common.{◌≡◌, ℕ, zero, suc, ◌+◌, ◌-◌, ◌≤◌, List, [], ◌∷◌, ◌++◌, map, take, drop, slice_get, slice_range, option_map, Option, Some, None, refl, sym, ap, ap₂, ◌∙◌, arith}
use Rattle.std.proofs.lemmas.List.{map_push}
use Rattle.std.proofs.lemmas.Option.{same_Some}
use Rattle.col_model.specs.Keys.{Entry}
use Rattle.col_file.specs.Handles.{Handle, handle_of, listed}

-- one more item of a part
pub take-next : {A : Type 0} (xs : List A) (n : ℕ) (x : A) → slice_get xs n ≡ Some x → take (suc n) xs ≡ take n xs ++ x ∷ []
take-next [] n x e = cc
take-next (y ∷ xs) zero x e = ap (λ z. z ∷ []) (same_Some y x e)
take-next (y ∷ xs) (suc n) x e = ap (λ ys. y ∷ ys) (take-next xs n x e)

pub range-next : {A : Type 0} (xs : List A) (start at next : ℕ) (x : A) → start ≤ at → next ≡ at + 1
    → slice_get xs at ≡ Some x → slice_range xs start next ≡ slice_range xs start at ++ x ∷ []
range-next [] start at next x h n e = cc
range-next (y ∷ xs) zero at next x h n e =
    let one : next - 0 ≡ suc at = omega arith in
    let same : at - 0 ≡ at = omega arith in
    rw (one, same) (take-next (y ∷ xs) at x e)
range-next (y ∷ xs) (suc start) zero next x h n e = absurd (omega arith)
range-next (y ∷ xs) (suc start) (suc at) next x h n e =
    let less : next - suc start ≡ at + 1 - start = omega arith in
    let down : suc at - suc start ≡ at - start = omega arith in
    rw (less, down) (range-next xs start at (at + 1) x (omega arith) refl e)

-- the items left from one on
pub drop-at : {A : Type 0} (xs : List A) (at next : ℕ) (x : A) → next ≡ at + 1 → slice_get xs at ≡ Some x → drop at xs ≡ x ∷ drop next xs
drop-at [] at next x n e = cc
drop-at (y ∷ xs) zero next x n e =
    let one : next ≡ suc zero = omega arith in
    rw one (ap (λ z. z ∷ xs) (same_Some y x e))
drop-at (y ∷ xs) (suc at) next x n e =
    let one : next ≡ suc (at + 1) = omega arith in
    rw one (drop-at xs at (at + 1) x refl e)

-- the names and handles left from one on
pub drop-listed : (es : List Entry) (at next : ℕ) (name : List ℕ) (h : Handle) → next ≡ at + 1
    → option_map (λ e. e.key.name) (slice_get es at) ≡ Some name → option_map handle_of (slice_get es at) ≡ Some h
    → map listed (drop at es) ≡ (name, h) ∷ map listed (drop next es)
drop-listed es at next name h one n e = with_entry (slice_get es at) refl n e
  where
    with_entry : (o : Option Entry) → slice_get es at ≡ o → option_map (λ e. e.key.name) o ≡ Some name
        → option_map handle_of o ≡ Some h → map listed (drop at es) ≡ (name, h) ∷ map listed (drop next es)
    with_entry None is n e = cc
    with_entry (Some x) is n e =
        ap (map listed) (drop-at es at next x one is)
        ∙ ap₂ (λ name h. (name, h) ∷ map listed (drop next es)) (same_Some x.key.name name n) (same_Some (handle_of x) h e)

-- one more handle
pub handles-next : (es : List Entry) (start at next : ℕ) (h : Handle) (so_far : List Handle) → start ≤ at
    → next ≡ at + 1 → option_map handle_of (slice_get es at) ≡ Some h
    → so_far ≡ map handle_of (slice_range es start at)
    → so_far ++ h ∷ [] ≡ map handle_of (slice_range es start next)
handles-next es start at next h so_far o one e was = with_entry (slice_get es at) refl e
  where
    with_entry : (f : Option Entry) → slice_get es at ≡ f → option_map handle_of f ≡ Some h
        → so_far ++ h ∷ [] ≡ map handle_of (slice_range es start next)
    with_entry None is e = cc
    with_entry (Some x) is e =
        ap₂ (λ hs h. hs ++ h ∷ []) was (sym (same_Some (handle_of x) h e))
        ∙ sym (map_push handle_of (slice_range es start at) x)
        ∙ ap (map handle_of) (sym (range-next es start at next x o one is))

-- one more name with its handle
pub listed-next : (es : List Entry) (at next : ℕ) (name : List ℕ) (h : Handle) (so_far : List (List ℕ × Handle))
    → next ≡ at + 1 → option_map (λ e. e.key.name) (slice_get es at) ≡ Some name
    → option_map handle_of (slice_get es at) ≡ Some h → so_far ≡ map listed (take at es)
    → so_far ++ (name, h) ∷ [] ≡ map listed (take next es)
listed-next es at next name h so_far one n e was = with_entry (slice_get es at) refl n e
  where
    with_entry : (f : Option Entry) → slice_get es at ≡ f → option_map (λ e. e.key.name) f ≡ Some name
        → option_map handle_of f ≡ Some h → so_far ++ (name, h) ∷ [] ≡ map listed (take next es)
    with_entry None is n e = cc
    with_entry (Some x) is n e =
        let suc_at : next ≡ suc at = omega arith in
        (λ i. was i ++ (sym (same_Some x.key.name name n) i, sym (same_Some (handle_of x) h e) i) ∷ [])
        ∙ sym (map_push listed (take at es) x)
        ∙ ap (map listed) (sym (ap (λ k. take k es) suc_at ∙ take-next es at x is))
