-- What is joined of the columns that stand for those of all readers.
use Rattle.std.proofs.Common.{◌≡◌, ℕ, List, length, sum, Option, Some, Result, sym, ap, ◌∙◌, subst}
use Rattle.std.specs.List.{AllByRecursion}
use Rattle.col_common.specs.declared.error.ColumnarError.{ColumnarError}
use Rattle.col_dynamic.specs.declared.dynamic_column.DynamicColumn.{DynamicColumn}
use Rattle.col_file.specs.Readers.{SeenReader, IsRead}
use Rattle.col_merge.proofs.OpenTurnLemmas.{joins-columns}
use Rattle.col_merge.proofs.PartLemmas.{parts-told, counts-told}
use Rattle.col_merge.proofs.ShortLemmas.{at-told}
use Rattle.col_merge.specs.Joined.{joined_by, HasJoinCause, JoinsBytes, JoinsColumns}
use Rattle.col_merge.specs.Parts.{told_parts}
use Rattle.col_merge.specs.Short.{StandShort, IsShortOf}
use Rattle.col_merge_plan.specs.Slots.{counts_read}
use Rattle.col_merge_slot.specs.JoinedSlots.{AreOpened}
use Rattle.col_model.specs.Category.{Slot}
use Rattle.col_model.specs.File.{Part}
use Rattle.col_model.specs.Merge.{Required, row_counts}
use Rattle.col_model.specs.Order.{stack, all_rows}
use Rattle.col_order.proofs.PickLemmas.{length-all_rows}
use Rattle.col_types.specs.declared.column_type.ColumnType.{ColumnType}

-- the column that is joined of them is the one that the stack joins
pub short-joins : (olds news : List SeenReader) (slot : Slot) (required : List Required) (own counts : List ℕ)
    (columns : List (Option DynamicColumn)) (r : Result (Option (ColumnType × List ℕ)) ColumnarError)
    → counts_read olds ≡ own → AllByRecursion IsRead olds → IsShortOf slot olds counts columns → HasJoinCause r
    → ((parts : List Part) → row_counts parts ≡ counts → AreOpened slot parts columns
    → JoinsBytes r slot.name (length (all_rows counts)) (joined_by (stack counts) required parts slot))
    → JoinsColumns olds news r slot.name (length (all_rows own)) (λ parts. joined_by (stack own) required parts slot)
short-joins olds news slot required own counts columns r same read short cause joins =
    joins-columns olds news slot.name (length (all_rows own)) (λ parts. joined_by (stack own) required parts slot) r
    cause (λ parts t. of-parts parts t (at-told _ olds parts t short.told))
  where
    of-parts : (parts : List Part) → told_parts olds ≡ Some parts → StandShort slot parts counts columns
        → JoinsBytes r slot.name (length (all_rows own)) (joined_by (stack own) required parts slot)
    of-parts parts t st =
        let counted : row_counts parts ≡ own = counts-told olds parts (parts-told olds parts read t) ∙ same in
        let rows : length (all_rows counts) ≡ length (all_rows own) =
        length-all_rows counts ∙ short.rows ∙ ap sum same ∙ sym (length-all_rows own) in
        let is = st.joined required ∙ ap (λ ns. joined_by (stack ns) required parts slot) counted in
        subst (λ n. JoinsBytes r slot.name n (joined_by (stack own) required parts slot)) rows
        (subst (λ x. JoinsBytes r slot.name (length (all_rows counts)) x) is (joins st.short st.counted st.opened))
