use Rattle.std.proofs.Common.{subst}
use Rattle.col_common.specs.Decoding.{Decodes}
use Rattle.col_model.specs.Index.{RowSet}
use Rattle.col_index.proofs.OpeningLemmas.{row_set-listed, row_set-formed}
use Rattle.col_index.proofs.open.open_optional_index.Goals as goal

pub returns-in-V1 : goal.returns-in-V1
returns-in-V1 c =
    subst (Decodes (λ (index : RowSet). index) c.open_listed.result)
    (row_set-listed c.args.format_version c.args.bytes c.in-V1.is) c.open_listed.ensures

pub returns-in-V3 : goal.returns-in-V3
returns-in-V3 c =
    subst (Decodes (λ (index : RowSet). index) c.open_formed.result)
    (row_set-formed c.args.format_version c.args.bytes c.in-V3.is) c.open_formed.ensures
