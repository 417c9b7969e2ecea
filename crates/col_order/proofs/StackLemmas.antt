-- Offsets of segments.
use Rattle.std.proofs.Common.{◌≡◌, ◌+◌, ◌≤◌, ◌∷◌, ◌++◌, [], ℕ, List, ap, ◌∙◌, arith, length, get_or, map}
use Rattle.std.specs.List.{range_with_len}
use Rattle.std.proofs.lemmas.List.FromFn.{length-map-range_with_len, get_or-map-range_with_len, map-range_with_len_more}
use Rattle.col_model.specs.Positions.{start_of}
use Rattle.col_order.specs.Orders.{IsStack}

-- there is one offset more than there are segments
pub length-offsets : (counts offsets : List ℕ) → IsStack counts offsets → length offsets ≡ length counts + 1
length-offsets counts offsets h = ap length h.offsets_are ∙ length-map-range_with_len (start_of counts) 0 (length counts + 1)

-- an offset that was read
pub offset_read : (counts offsets : List ℕ) (i x : ℕ) → IsStack counts offsets → i ≤ length counts
    → x ≡ get_or offsets i x → x ≡ start_of counts i
offset_read counts offsets i x h within e =
    e ∙ ap (λ xs. get_or xs i x) h.offsets_are
    ∙ get_or-map-range_with_len (start_of counts) 0 (length counts + 1) i i x (omega arith) (omega arith)

-- one offset more
pub offset_put : (counts old new : List ℕ) (i start : ℕ) → old ≡ map (start_of counts) (range_with_len 0 i)
    → start ≡ start_of counts i → new ≡ old ++ (start ∷ []) → new ≡ map (start_of counts) (range_with_len 0 (i + 1))
offset_put counts old new i start was here e = grind (arith, map-range_with_len_more (start_of counts) 0 i i)
