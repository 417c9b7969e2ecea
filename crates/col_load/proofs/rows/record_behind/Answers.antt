use Rattle.std.proofs.Common.{map, ap, ◌∙◌}
use Rattle.std.specs.Prelude.{not}
use Rattle.col_documents.specs.Read.{field_read}
use Rattle.col_load.specs.Loads.{calls_at}
use Rattle.col_load.proofs.RowLemmas.{made_behind, refused_behind}
use Rattle.col_load.proofs.rows.record_behind.Goals as goal

pub returns-in_ok-refusal : goal.returns-in_ok-refusal
returns-in_ok-refusal c =
    λ calls was. made_behind c.record_fields.new.columns c.args.columns.now c.in_ok-refusal.field-0 c.args.refusal.now calls
    (calls_at c.args.doc (map field_read c.args.fields.now)) (c.is_none.ensures ∙ ap not c.if-is_none.true) c.in_ok-refusal.ensures was

pub returns-else-is_none : goal.returns-else-is_none
returns-else-is_none c =
    λ calls was. refused_behind c.args.columns.now c.args.refusal.now calls (calls_at c.args.doc (map field_read c.args.fields.now))
    c.if-is_none.ensures was
