-- Parts of lists.
use Rattle.std.proofs.Common.{◌≡◌, ℕ, ◌+◌, ◌<◌, ◌≤◌, List, ◌∷◌, length, map, take, drop, refl, sym, ◌∙◌, arith, length-take, length-drop}
use Rattle.std.specs.List.{range_with_len}
use Rattle.std.proofs.lemmas.List.{same_lists, get_or-take, get_or-drop}
use Rattle.std.proofs.lemmas.List.FromFn.{length-map-range_with_len, get_or-map-range_with_len}

-- equal lists have equal heads, and equal tails
pub head-same : (x y : ℕ) (xs ys : List ℕ) → x ∷ xs ≡ y ∷ ys → x ≡ y
head-same x y xs ys e = cc

-- equal lists are equal behind their first items
pub tail-same : (x y : ℕ) (xs ys : List ℕ) → x ∷ xs ≡ y ∷ ys → xs ≡ ys
tail-same x y xs ys e = cc

-- a part of what a function gives of the first numbers
pub range-part : (f : ℕ → ℕ) (n start m : ℕ) → start + m ≤ n
    → map f (range_with_len start m) ≡ take m (drop start (map f (range_with_len 0 n)))
range-part f n start m h =
    let part = map f (range_with_len start m) in
    let whole = map f (range_with_len 0 n) in
    let long : length part ≡ m = length-map-range_with_len f start m in
    let cut : length (take m (drop start whole)) ≡ m =
    omega
    (arith, length-take m (drop start whole), length-drop start whole, length-map-range_with_len f 0 n, h) in
    same_lists part (take m (drop start whole)) (long ∙ sym cut)
    (λ k d w.
    let within : k < m = omega (arith, w, long) in
    get_or-map-range_with_len f start m k (start + k) d within refl
    ∙ sym (get_or-take m (drop start whole) k d within ∙ get_or-drop start whole k d
    ∙ get_or-map-range_with_len f 0 n (start + k) (start + k) d (omega (arith, within, h)) (omega arith)))
