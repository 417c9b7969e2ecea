-- The steps of the definition of a merged table.
use Rattle.std.proofs.Common.{◌≡◌, ℕ, ◌<◌, ◌^◌, false, List, [], sym, filter_map, length, Option, Some, None, Ok, Err, refl, ap, ◌∙◌}
use Rattle.std.specs.Prelude.{nat_le}
use Rattle.std.specs.Bool.{nat_eq}
use Rattle.std.specs.Cmp.Lexicographic.{pointwise}
use Rattle.std.proofs.lemmas.Bool.{lt-leb}
use Rattle.col_model.specs.File.{Part}
use Rattle.col_model.specs.Merge.{Required, joined_column, all_slots, required_refusal, row_counts, merged}
use Rattle.col_model.specs.Order.{Order, stack, shuffle, picks}
use Rattle.col_model.specs.Refusal.{Refusal, each_ok, bad_order}
use Rattle.col_model.specs.Table.{Column}
use Rattle.col_order.specs.Orders.{counts_of}

-- an order of other row counts picks nothing
pub other-order : (order : Order) (own counts : List ℕ) → pointwise nat_eq own counts ≡ false
    → own ≡ counts_of order → picks order counts ≡ None
unfolding picks
other-order (stack own) _ counts e same = rw (ap (λ o. pointwise nat_eq o counts) (sym same) ∙ e) refl
other-order (shuffle own addresses) _ counts e same = rw (ap (λ o. pointwise nat_eq o counts) (sym same) ∙ e) refl

-- an order that doesn't fit the row counts is refused as a bad order
pub merged-bad_order : (parts : List Part) (required : List Required) (order : Order)
    → picks order (row_counts parts) ≡ None → merged parts required order ≡ Err bad_order
unfolding merged
merged-bad_order parts required order e = rw e refl

module _ (parts : List Part) (required : List Required) (order : Order) (picked : List (ℕ × ℕ))
    (p : picks order (row_counts parts) ≡ Some picked) (few : length picked < 2 ^ 32) where
  within : nat_le (2 ^ 32) (length picked) ≡ false
  within = lt-leb (2 ^ 32) (length picked) few

  -- a refusal of the required columns is the merge's, where the order picks fewer than 2 ^ 32 rows
  pub merged-required : (e : Refusal) → required_refusal [] required ≡ Err e → merged parts required order ≡ Err e
  unfolding merged
  merged-required e r = rw (p, within, r) refl

  module _ (accepted : required_refusal [] required ≡ Ok tt) where
    -- the first refusal of a slot is the merge's, where the required columns are accepted
    pub merged-slots : (e : Refusal)
        → each_ok (joined_column order picked parts required) (all_slots parts required) ≡ Err e
        → merged parts required order ≡ Err e
    unfolding merged
    merged-slots e r = rw (p, within, accepted, r) refl

    -- slots that refuse nothing make the table of their columns
    pub merged-table : (cs : List (Option Column))
        → each_ok (joined_column order picked parts required) (all_slots parts required) ≡ Ok cs
        → merged parts required order ≡ Ok (record { row_count = length picked; columns = filter_map (λ c. c) cs })
    unfolding merged
    merged-table cs r = rw (p, within, accepted, r) refl
