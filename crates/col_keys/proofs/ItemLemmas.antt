-- Items that a loop reads one after another, and refusals that go on.
use Rattle.std.proofs.Common.{◌≡◌, ℕ, suc, ◌-◌, ◌+◌, ◌≤◌, ◌<◌, List, [], ◌∷◌, ◌++◌, Option, Some, None, refl, sym, ap, ◌∙◌, append_assoc, append-nil, arith}
use Rattle.col_common.specs.Reading.{◌>>=◌, items}
use Rattle.col_common.specs.Decoding.{Refuses}
use Rattle.col_common.specs.declared.error.ColumnarError.{ColumnarError}
use Rattle.col_common.proofs.DecodingLemmas.{refuses-as}

-- what was read before, and what is still read
abbrev pub with_front : {A : Type 0} → List A → Option (List A × List ℕ) → Option (List A × List ℕ)
with_front front read = read >>= λ x. Some (front ++ x.0, x.1)

regroup : {A : Type 0} (front : List A) (x : A) (read : Option (List A × List ℕ))
    → with_front front (read >>= λ q. Some (x ∷ q.0, q.1)) ≡ with_front (front ++ x ∷ []) read
regroup front x (Some q) = ap (λ xs. Some (xs, q.1)) (sym (append_assoc front (x ∷ []) q.0))
regroup front x None = refl

-- one more item
pub items-goes_on : {A : Type 0} (item : List ℕ → Option (A × List ℕ)) (front : List A) (count i : ℕ)
    (bytes : List ℕ) (x : A) (after : List ℕ) (total : Option (List A × List ℕ)) → i < count
    → item bytes ≡ Some (x, after)
    → with_front front (items item (count - i) bytes) ≡ total → with_front (front ++ x ∷ []) (items item (count - (i + 1)) after) ≡ total
unfolding items
items-goes_on item front count i bytes x after total lt h so_far =
    let k : count - i ≡ suc (count - (i + 1)) = omega arith in
    let one : with_front front (items item (count - i) bytes) ≡ with_front (front ++ x ∷ [])
    (items item (count - (i + 1)) after) = rw (k, h) (regroup front x (items item (count - (i + 1)) after)) in
    sym one ∙ so_far

-- no item is where one is due
items-ends : {A : Type 0} (item : List ℕ → Option (A × List ℕ)) (front : List A) (count i : ℕ) (bytes : List ℕ)
    (total : Option (List A × List ℕ)) → i < count → with_front front (items item (count - i) bytes) ≡ total
    → item bytes ≡ None → total ≡ None
unfolding items
items-ends item front count i bytes total lt so_far h =
    let k : count - i ≡ suc (count - (i + 1)) = omega arith in
    let one : with_front front (items item (count - i) bytes) ≡ None = rw (k, h) refl in
    sym so_far ∙ one

-- a refusal of the next item is one of all
pub items-refused : {A : Type 0} (e : ColumnarError) (item : List ℕ → Option (A × List ℕ)) (front : List A)
    (count i : ℕ) (bytes : List ℕ) (total : Option (List A × List ℕ)) → i < count
    → with_front front (items item (count - i) bytes) ≡ total → Refuses e (item bytes) → Refuses e total
items-refused e item front count i bytes total lt so_far h =
    refuses-as e (item bytes) total (items-ends item front count i bytes total lt so_far) h

-- all items
pub items-done : {A : Type 0} (item : List ℕ → Option (A × List ℕ)) (front : List A) (count i : ℕ) (bytes : List ℕ)
    (total : Option (List A × List ℕ)) → count ≤ i → with_front front (items item (count - i) bytes) ≡ total
    → total ≡ Some (front, bytes)
unfolding items
items-done item front count i bytes total le so_far =
    let k : count - i ≡ 0 = omega arith in
    let one : with_front front (items item (count - i) bytes) ≡ Some (front, bytes) =
    rw k (ap (λ xs. Some (xs, bytes)) (append-nil front)) in
    sym so_far ∙ one
