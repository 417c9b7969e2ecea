-- Lists that are filled without a branch: an item is written at the next slot, and stays where it passes.
use Rattle.std.proofs.Common.{◌≡◌, ℕ, ◌+◌, ◌<◌, ◌≤◌, Bool, true, false, cond, List, [], ◌∷◌, ◌++◌, length, take, set, sym, ap, ◌∙◌, arith, append-nil, add-zero}
use mir.Val.{bool_byte}
use Rattle.std.proofs.lemmas.List.{take_more_set, take-set}

-- an item is written behind those that are kept, and stays where it passes
pub kept_more : (slots : List ℕ) (kept item : ℕ) (b : Bool) → kept < length slots
    → take (kept + bool_byte b) (set slots kept item) ≡ take kept slots ++ cond b (item ∷ []) []
kept_more slots kept item true within = take_more_set slots kept item within
kept_more slots kept item false within =
    ap (λ n. take n (set slots kept item)) (add-zero kept) ∙ take-set slots kept item
    ∙ sym (append-nil (take kept slots))

-- one item more leaves at most as many kept as were looked at
pub kept_within : (kept most : ℕ) (b : Bool) → kept ≤ most → kept + bool_byte b ≤ most + 1
kept_within kept most true h = omega arith
kept_within kept most false h = omega arith
