use Rattle.std.proofs.Common.{refl, arith}
use Rattle.col_indexer.specs.Spelling.{row_set_by}
use Rattle.col_indexer.proofs.RowWritingLemmas.{told-same}
use Rattle.col_indexer.proofs.SetSpellingLemmas.{rows-below, rows-fit, runs-of-fit, set-in_runs, set-listed}
use Rattle.col_indexer.proofs.serialize_rows.serialize_rows.Goals as goal

pub count_runs-num_runs-requires : goal.count_runs-num_runs-requires
count_runs-num_runs-requires g c = rows-below (row_set_by c.args.num_rows c.args.rows.now) c.requires

pub runs_pay-requires : goal.runs_pay-requires
runs_pay-requires g c = omega (arith, c.count_runs-num_runs.ensures, runs-of-fit (row_set_by c.args.num_rows c.args.rows.now) c.requires)

pub serialize_listed-requires : goal.serialize_listed-requires
serialize_listed-requires g c = rows-fit (row_set_by c.args.num_rows c.args.rows.now) c.requires

pub returns-then-runs_pay : goal.returns-then-runs_pay
returns-then-runs_pay g c =
    let s = row_set_by c.args.num_rows c.args.rows.now in
    let told = told-same _ _ _ _ _ (set-in_runs s _ _ c.count_runs-num_runs.ensures refl c.if-runs_pay.ensures)
    c.serialize_in_runs.ensures.ok c.serialize_in_runs.ensures.length in
    record { ok = told.ok; length = told.length }

pub returns : goal.returns
returns g c =
    let s = row_set_by c.args.num_rows c.args.rows.now in
    let told = told-same _ _ _ _ _ (set-listed s _ _ c.count_runs-num_runs.ensures refl c.if-runs_pay.ensures)
    c.serialize_listed.ensures.ok c.serialize_listed.ensures.length in
    record { ok = told.ok; length = told.length }
