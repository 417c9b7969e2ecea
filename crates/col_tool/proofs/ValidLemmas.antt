-- Where there is no input, no invalid data is met.
use Rattle.std.proofs.Common.{◌≡◌, ℕ, ◌-◌, ◌^◌, ◌==◌, ◌&&◌, not, nat_le, Bool, true, false, is_none, Option, Some, None, Result, Ok, Err, IfSome, List, [], ◌∷◌, ◌++◌, map, filter, filter_map, length, inl, inr, ◌⊎◌, refl, sym, ap, ◌∙◌, arith}
use Rattle.std.specs.Prelude.{⊤, if◌then◌else◌}
use Rattle.std.specs.FinMap.{put}
use Rattle.std.specs.List.{list_all, list_any}
use Rattle.std.proofs.lemmas.Bool.{true≢false}
use Rattle.col_common.specs.Outside.{SeenFile}
use Rattle.col_common.specs.Refused.{code_of}
use Rattle.col_common.specs.declared.error.ColumnarError.{ColumnarError}
use Rattle.col_common.specs.declared.error.ColumnarError.TheVariants.{ReadFault}
use Rattle.col_model.specs.ColumnType.{ColumnType}
use Rattle.col_model.specs.ColumnType as types
use Rattle.col_model.specs.Category.{Slot, slot_of, slot_cmp}
use Rattle.col_model.specs.Table.{Column, Table}
use Rattle.col_model.specs.File.{part_of_table}
use Rattle.col_model.specs.Limits.{is_too_large, is_of_type}
use Rattle.col_model.specs.Order.{Order, shuffle, all_rows, picks}
use Rattle.col_model.specs.Merge.{Required, kept_columns, all_cells, shared_type, required_type, joined_type, joined_content, has_bad_column, joined_column, all_slots, contradicts, required_refusal, row_counts, merged}
use Rattle.col_program.specs.Outcome.{order_over, segment_table, script_table}
use Rattle.col_model.specs.Recording.{Call, recorded, typed, tied, entry_of, forces_other, is_late, denies, content_after, content_after_all}
use Rattle.col_model.specs.Refusal.{Refusal, status_of, ◌>>=◌, refuse_if, or_refuse, each_ok, invalid_data, bad_order, bad_name, required_conflict, cannot_coerce, numerical_conflict, too_large, forced_type, doc_order, doc_out_of_range, tie_breaker_start}
use Rattle.col_model.specs.SortedOrder.{sorted_rows, sorted_order}
use Rattle.col_program.specs.Script.{Script, Segment, RowOrder, SortKey, named, sorted}
use Rattle.col_model.specs.Written.{Entry, Recorded, entry_content, entry_type, is_past_docs, is_past_ties, is_permutation, has_zero, written, written_column}
use Rattle.col_model.proofs.ConflictLaws.{same_Err, ok_not_err}
use Rattle.col_model.proofs.StackSeen.{none-bad}
use Rattle.col_writer_columns.specs.Answers.{MayRefuse}
use Rattle.col_outcome.specs.Making.{MakesIfRead}
use Rattle.col_outcome.specs.Parts.{all_told}
use Rattle.col_headline.proofs.StatusLemmas.{code-answer}
use Rattle.col_script.proofs.RefusalLemmas.{Allows, AllowsSegments, allows-then, allows-test, allows-or, allows-each, allows-either, allows-unmet, allows-segment}

-- the refusal isn't that of invalid data
abbrev IsOther : Refusal → Type 0
IsOther e = e ≡ invalid_data → ⊥

other-segments : AllowsSegments IsOther
other-segments = record {
  forced_type = λ h. cc;
  doc_order = λ h. cc;
  too_large = λ h. cc;
  numerical_conflict = λ h. cc;
  tie_breaker_start = λ h. cc;
  doc_out_of_range = λ h. cc;
  bad_order = λ h. cc;
}

-- ---- the merge of tables

valid-type : (wanted : Option ColumnType) (kept : List Column) → Allows IsOther (joined_type wanted kept)
valid-type (Some t) kept = allows-test IsOther (not (list_all (λ c. list_all (is_of_type t) (all_cells c)) kept)) cannot_coerce (Ok t)
    (λ h. cc) tt
valid-type None kept = allows-or IsOther (shared_type kept) numerical_conflict (λ h. cc)

valid-joined :
    (order : Order) (picked : List (ℕ × ℕ)) (tables : List Table) (required : List Required) (slot : Slot)
    → Allows IsOther (joined_column order picked (map part_of_table tables) required slot)
unfolding joined_column
valid-joined order picked tables required slot =
    let parts = map part_of_table tables in
    let kept = kept_columns slot picked parts in
    let wanted = required_type required slot in
    let content = joined_content order slot picked parts kept in
    let made : ColumnType → Result (Option Column) Refusal =
    λ t. Ok (Some (record { name = slot.name; column_type = t; content = content })) in
    let small : ColumnType → Result (Option Column) Refusal = λ t. refuse_if (is_too_large t content) too_large >>= λ _. made t in
    let present : Result (Option Column) Refusal = joined_type wanted kept >>= small in
    let absent = is_none wanted && (length kept == 0) in
    allows-unmet IsOther (has_bad_column slot parts) invalid_data (if absent then Ok None else present) (none-bad slot tables)
    (allows-either IsOther absent (Ok None) present tt
    (allows-then IsOther (joined_type wanted kept) small (valid-type wanted kept)
    (λ t. allows-test IsOther (is_too_large t content) too_large (made t) (λ h. cc) tt)))

valid-required : (earlier required : List Required) → Allows IsOther (required_refusal earlier required)
valid-required earlier [] = tt
valid-required earlier (r ∷ rs) =
    let rest : Result ⊤ Refusal = required_refusal (earlier ++ r ∷ []) rs in
    let alone : Result ⊤ Refusal = refuse_if (list_any (contradicts r) earlier) required_conflict >>= λ _. rest in
    allows-test IsOther (has_zero r.name) bad_name alone (λ h. cc)
    (allows-test IsOther (list_any (contradicts r) earlier) required_conflict rest (λ h. cc) (valid-required (earlier ++ r ∷ []) rs))

valid-merged : (tables : List Table) (required : List Required) (order : Order)
    → Allows IsOther (merged (map part_of_table tables) required order)
unfolding merged
valid-merged tables required order =
    let parts = map part_of_table tables in
    let table : List (ℕ × ℕ) → List (Option Column) → Result Table Refusal =
    λ picked columns. Ok (record { row_count = length picked; columns = filter_map (λ c. c) columns }) in
    let columns : List (ℕ × ℕ) → Result (List (Option Column)) Refusal =
    λ picked. each_ok (joined_column order picked parts required) (all_slots parts required) in
    let named : List (ℕ × ℕ) → Result Table Refusal = λ picked. required_refusal [] required >>= λ _. columns picked >>= table picked in
    let few : List (ℕ × ℕ) → Result Table Refusal = λ picked. refuse_if (nat_le (2 ^ 32) (length picked)) too_large >>= λ _. named picked in
    let found = picks order (row_counts parts) in
    allows-then IsOther (or_refuse found bad_order) few (allows-or IsOther found bad_order (λ h. cc))
    (λ picked. allows-test IsOther (nat_le (2 ^ 32) (length picked)) too_large (named picked) (λ h. cc)
    (allows-then IsOther (required_refusal [] required) (λ _. columns picked >>= table picked) (valid-required [] required)
    (λ _. allows-then IsOther (columns picked) (table picked) (allows-each IsOther (joined_column order picked parts required)
    (all_slots parts required) (valid-joined order picked tables required))
    (λ columns. tt))))

-- ---- a script

valid-sorted : (tables : List Table) (key : SortKey)
    → Allows IsOther (sorted_order (map part_of_table tables) (slot_of key.name key.column_type) key.reversed)
unfolding sorted_order
valid-sorted tables key =
    let parts = map part_of_table tables in
    let slot = slot_of key.name key.column_type in
    let made : Result Order Refusal = Ok (shuffle (row_counts parts) (sorted_rows slot key.reversed parts)) in
    let sound : Result Order Refusal = refuse_if (has_bad_column slot parts) invalid_data >>= λ _. made in
    allows-test IsOther (nat_le (2 ^ 32) (length (all_rows (row_counts parts)))) too_large sound (λ h. cc)
    (allows-unmet IsOther (has_bad_column slot parts) invalid_data made (none-bad slot tables) tt)

valid-order : (tables : List Table) (o : Option RowOrder) → Allows IsOther (order_over o (map part_of_table tables))
valid-order tables None = tt
valid-order tables (Some (named rows)) = tt
valid-order tables (Some (sorted key)) = valid-sorted tables key

valid-script : (s : Script) → Allows IsOther (script_table [] s)
valid-script s =
    let in_order : List Table → Order → Result Table Refusal = λ tables order. merged (map part_of_table tables) s.required order in
    let rest : List Table → Result Table Refusal =
    λ tables. order_over s.order (map part_of_table tables) >>= in_order tables in
    allows-then IsOther (each_ok segment_table s.segments) rest
    (allows-each IsOther segment_table s.segments (allows-segment IsOther other-segments))
    (λ tables. allows-then IsOther (order_over s.order (map part_of_table tables)) (in_order tables) (valid-order tables s.order)
    (λ order. valid-merged tables s.required order))

-- another refusal has another status
other-status : (r : Refusal) → status_of r ≡ 6 → r ≡ invalid_data
other-status invalid_data six = refl
other-status bad_order six = absurd (omega (arith, six))
other-status bad_name six = absurd (omega (arith, six))
other-status required_conflict six = absurd (omega (arith, six))
other-status cannot_coerce six = absurd (omega (arith, six))
other-status numerical_conflict six = absurd (omega (arith, six))
other-status too_large six = absurd (omega (arith, six))
other-status forced_type six = absurd (omega (arith, six))
other-status doc_order six = absurd (omega (arith, six))
other-status doc_out_of_range six = absurd (omega (arith, six))
other-status tie_breaker_start six = absurd (omega (arith, six))

-- a refusal that is expected of a valid step hasn't the status of invalid data
valid-refused : {A : Type 0} (expected : Result A Refusal) (r : Refusal) → Allows IsOther expected → expected ≡ Err r → status_of r ≡ 6 → ⊥
valid-refused (Ok x) r valid is six = absurd (ok_not_err x r is)
valid-refused (Err e) r valid is six = valid (same_Err e r is ∙ other-status r six)

-- Where there is no input, what is made of a script isn't refused as invalid data.
pub without-invalid : {B : Type 0} (inputs : List SeenFile) (IsOf : Table → B → Type 0) (s : Script)
    (e : ColumnarError) → inputs ≡ []
    → IfSome (all_told inputs) (λ files. MakesIfRead IsOf (Err e) (script_table files s)) → code_of e ≡ 6
    → ⊥
without-invalid {B} inputs IsOf s e none makes = by (rw none at makes)
  where
    refused : (e ≡ ReadFault) ⊎ MayRefuse (script_table [] s) e → code_of e ≡ 6 → ⊥
    refused (inl fault) six = let h = rw fault at six in omega (arith, h)
    refused (inr (inl memory)) six = let h = rw memory at six in omega (arith, h)
    refused (inr (inr (r, is, answer))) six =
        valid-refused (script_table [] s) r (valid-script s) is
        (sym (code-answer r) ∙ ap code_of (sym answer) ∙ six)

    by : MakesIfRead {B = B} IsOf (Err e) (script_table [] s) → code_of e ≡ 6 → ⊥
    by makes = refused makes.refused
