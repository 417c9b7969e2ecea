use Rattle.std.proofs.Common.{subst, arith}
use Rattle.col_common.specs.Decoding.{Decodes}
use Rattle.col_model.specs.Index.{RowSet}
use Rattle.col_index.proofs.OpeningLemmas.{formed_set-listed, formed_set-runs, formed_set-other}
use Rattle.col_index.proofs.open.open_by_form.Goals as goal

pub returns-in-0 : goal.returns-in-0
returns-in-0 c =
    subst (Decodes (λ (index : RowSet). index) c.open_listed.result)
    (formed_set-listed c.args.form c.args.bytes c.in-0.is) c.open_listed.ensures

pub returns-in-1 : goal.returns-in-1
returns-in-1 c =
    subst (Decodes (λ (index : RowSet). index) c.open_runs.result)
    (formed_set-runs c.args.form c.args.bytes c.in-1.is) c.open_runs.ensures

pub returns-in_default : goal.returns-in_default
returns-in_default c = formed_set-other c.args.form c.args.bytes (omega arith)
