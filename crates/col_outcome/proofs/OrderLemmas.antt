-- Orders over segments, and why there is none.
use Rattle.std.proofs.Common.{◌≡◌, ◌≤◌, ◌⊎◌, ◌^◌, ℕ, Bool, true, false, List, length, sum, nat_le, if◌then◌else◌, Some, None, Err, inl, inr, refl, sym}
use Rattle.std.specs.List.{list_all}
use Rattle.std.proofs.lemmas.Bool.{leb-true}
use Rattle.std.proofs.lemmas.Cmp.{nat_list_eq_equiv}
use Rattle.std.proofs.lemmas.Option.{same_Some}
use Rattle.col_common.specs.declared.error.ColumnarError.{ColumnarError}
use Rattle.col_common.specs.declared.error.ColumnarError.TheVariants.{OutOfMemory, BadOrder, TooLarge}
use Rattle.col_model.specs.Order.{has_row, picks, stack, shuffle, all_rows}
use Rattle.col_model.proofs.StackLaws.{picks-stack}
use Rattle.col_order.specs.Orders.{shuffle_refusal}
use Rattle.col_order.proofs.PickLemmas.{length-all_rows, picks-shuffle}
use Rattle.col_outcome.specs.Ordered.{IsOrder}

-- why there is no stack
pub stack-refused : (counts : List ℕ) (e : ColumnarError) → (e ≡ TooLarge) ⊎ (e ≡ OutOfMemory)
    → (e ≡ TooLarge → 2 ^ 32 ≤ sum counts) → IsOrder (stack counts) counts (Err e)
stack-refused counts e (inl large) why =
    inr (inr (large, record { picked = all_rows counts; are = picks-stack counts; many = rw (length-all_rows counts) (why large) }))
stack-refused counts e (inr memory) why = inl memory

-- a shuffle that names a row that is missing
shuffle-missing : (counts : List ℕ) (addresses : List (ℕ × ℕ)) → list_all (has_row counts) addresses ≡ false
    → picks (shuffle counts addresses) counts ≡ None
unfolding picks
shuffle-missing counts addresses missing = rw (nat_list_eq_equiv.refl counts, missing) refl

-- why there is no shuffle
shuffle-stopped : (counts : List ℕ) (addresses : List (ℕ × ℕ)) (e : ColumnarError)
    → shuffle_refusal counts addresses ≡ Some e → IsOrder (shuffle counts addresses) counts (Err e)
shuffle-stopped counts addresses e = by (list_all (has_row counts) addresses) refl (nat_le (2 ^ 32) (length addresses)) refl
  where
    by : (there : Bool) → list_all (has_row counts) addresses ≡ there → (many : Bool)
        → nat_le (2 ^ 32) (length addresses) ≡ many
        → (if there then (if many then Some TooLarge else None) else Some BadOrder) ≡ Some e
        → IsOrder (shuffle counts addresses) counts (Err e)
    by true a true b h =
        inr (inr (
          sym (same_Some TooLarge e h),
          record {
            picked = addresses;
            are = picks-shuffle counts addresses a;
            many = leb-true (2 ^ 32) (length addresses) b;
          },
        ))
    by true a false b h = cc
    by false a many b h = inr (inl (sym (same_Some BadOrder e h), shuffle-missing counts addresses a))

-- addresses that the row counts refuse, or want of memory, make no order, for that reason
pub shuffle-refused : (counts : List ℕ) (addresses : List (ℕ × ℕ)) (e : ColumnarError)
    → (e ≡ OutOfMemory) ⊎ (shuffle_refusal counts addresses ≡ Some e) → IsOrder (shuffle counts addresses) counts (Err e)
shuffle-refused counts addresses e (inl memory) = inl memory
shuffle-refused counts addresses e (inr stopped) = shuffle-stopped counts addresses e stopped
