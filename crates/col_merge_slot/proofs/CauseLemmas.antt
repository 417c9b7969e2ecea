-- Why the column of a slot isn't written.
use Rattle.std.proofs.Common.{◌≡◌, inl, inr, Bool, true, false, List, [], Option, Result, Err, refl, sym, ap, subst, ◌∙◌, unwrap_or, arith}
use Rattle.col_common.specs.Outside.{SeenSink}
use Rattle.col_common.specs.declared.error.ColumnarError.{ColumnarError}
use Rattle.col_common.specs.declared.error.ColumnarError.TheVariants.{OutOfMemory, WriteFault, CannotCoerce, TooLarge}
use Rattle.col_common.proofs.SerializingLemmas.{appends_none}
use Rattle.col_model.specs.ColumnType as types
use Rattle.col_model.specs.Limits.{is_too_large}
use Rattle.col_model.specs.Order.{Order}
use Rattle.col_order.specs.Orders.{error_of}
use Rattle.col_dynamic.specs.declared.dynamic_column.DynamicColumn.{DynamicColumn}
use Rattle.col_common.proofs.OnOkLemmas.{same-error}
use Rattle.col_merge_slot.specs.JoinedSlots.{HasSlotCause, IsSlotRefusal, WritesSlot}

-- a refusal before the first byte, which is no fault of the sink
cause-stopped : {A : Type 0} (old new : SeenSink) (e f : ColumnarError) → new ≡ old → e ≡ f
    → (f ≡ WriteFault → ⊥) → IsSlotRefusal e → HasSlotCause {A = A} old new (Err e)
cause-stopped {A = A} old new e f same is no_fault refused =
    subst (λ s. HasSlotCause {A = A} old s (Err e)) (sym same) (record {
      grown = ([], appends_none old);
      later = omega arith;
      write_fault = λ h. absurd (no_fault (sym is ∙ same-error e WriteFault h));
      causes = refused;
    })

-- a column that wasn't written has its cause
pub slot-cause : {A : Type 0} (order : Order) (kept : List (Option DynamicColumn)) (t : types.ColumnType)
    (old new : SeenSink) (e : ColumnarError) → WritesSlot order kept t old new (Err e) → HasSlotCause {A = A} old new (Err e)
slot-cause order kept t old new e (inl h) =
    let is = same-error e OutOfMemory h.1 in
    cause-stopped old new e OutOfMemory h.0 is (λ g. cc) (inl is)
slot-cause order kept t old new e (inr (inl h)) =
    let is = same-error e CannotCoerce h.1 in
    cause-stopped old new e CannotCoerce h.0 is (λ g. cc) (inr (inr (inl is)))
slot-cause {A = A} order kept t old new e (inr (inr h)) = by (is_too_large t h.1.content) refl
  where
    by : (b : Bool) → is_too_large t h.1.content ≡ b → HasSlotCause {A = A} old new (Err e)
    by true large =
        let r = h.1.joins.too_large large in
        record {
          grown = r.grown;
          later = r.later;
          write_fault = λ g. r.write_fault (ap Err (same-error e WriteFault g));
          causes = elim r.refused [
            | inl f ↦ inr (inr (inr (inr (same-error e TooLarge f))))
            | inr f ↦ elim f [
              | inl g ↦ inl (same-error e OutOfMemory g)
              | inr g ↦ inr (inl (same-error e WriteFault g))
            ]
          ];
        }
    by false small =
        let s = h.1.joins.written small in
        record {
          grown = s.grown;
          later = s.later;
          write_fault = λ g. s.write_fault (ap Err (same-error e WriteFault g));
          causes = elim s.causes [ inl f ↦ inl f | inr f ↦ inr (inl f) ];
        }
