-- The refusal of rows that are named.
use Rattle.std.proofs.Common.{◌≡◌, ◌<◌, ◌≤◌, ◌^◌, List, ℕ, true, false, Some, None, arith, length, map}
use Rattle.std.specs.List.{list_all}
use Rattle.std.proofs.lemmas.List.{length-map}
use Rattle.std.proofs.lemmas.List.Folds.{list_all-map}
use Rattle.std.proofs.lemmas.Bool.Decides.{nat_tests}
use Rattle.col_common.specs.declared.row.RowAddr.{RowAddr}
use Rattle.col_common.specs.declared.error.ColumnarError.TheVariants.{BadOrder, TooLarge}
use Rattle.col_model.specs.Order.{has_row}
use Rattle.col_order.specs.Orders.{address_of, shuffle_refusal}

-- a row that no segment has
pub refused-row : (counts : List ℕ) (addrs : List RowAddr)
    → list_all (λ a. has_row counts (address_of a)) addrs ≡ false
    → shuffle_refusal counts (map address_of addrs) ≡ Some BadOrder
refused-row counts addrs h = grind (arith, list_all-map (has_row counts) address_of addrs)

-- too many rows
pub refused-many : (counts : List ℕ) (addrs : List RowAddr)
    → list_all (λ a. has_row counts (address_of a)) addrs ≡ true → 2 ^ 32 ≤ length addrs
    → shuffle_refusal counts (map address_of addrs) ≡ Some TooLarge
refused-many counts addrs h many = grind (arith, nat_tests, list_all-map (has_row counts) address_of addrs, length-map addrs address_of)

-- neither
pub refused-none : (counts : List ℕ) (addrs : List RowAddr)
    → list_all (λ a. has_row counts (address_of a)) addrs ≡ true → length addrs < 2 ^ 32
    → shuffle_refusal counts (map address_of addrs) ≡ None
refused-none counts addrs h few = grind (arith, nat_tests, list_all-map (has_row counts) address_of addrs, length-map addrs address_of)
