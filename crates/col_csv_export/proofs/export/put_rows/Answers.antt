use Rattle.std.proofs.Common.{◌≡◌, Ok, ap, arith, map, subst}
use Rattle.std.proofs.lemmas.Result.{err_from_is_err_and}
use Rattle.col_csv.specs.Csv.{records_text, row_records}
use Rattle.col_csv_export.specs.Putting.{PutsText}
use Rattle.col_opened.specs.Opened.{column_of}
use Rattle.col_csv_export.proofs.PutLemmas.{puts-nothing, puts-then, puts-refused}
use Rattle.col_csv_export.proofs.BlockLemmas.{rows-joined}
use Rattle.col_csv_export.proofs.export.put_rows.Goals as goal

pub loop-row-init : goal.loop-row-init
loop-row-init g c = (omega arith, puts-nothing _ tt _)

pub loop-row-preserved : goal.loop-row-preserved
loop-row-preserved g c = (
  c.in_ok-put_block.ensures.within,
  subst (PutsText _ _ (Ok tt) _ _)
      (rows-joined (map column_of c.args.columns.now) c.loop-row.row c.put_block.new.row
      (omega (arith, c.in_ok-put_block.ensures.begun)))
      (puts-then _ _ _ _ _ _ _ _ _ _ c.loop-row.invariant.1 c.in_ok-put_block.ensures.text),
)

pub returns-in_err-put_block : goal.returns-in_err-put_block
returns-in_err-put_block g c =
    let p = err_from_is_err_and c.from_residual.result c.from_residual.ensures.1 in
    rw (p.1, p.2) (puts-refused _ _ _ _ _ _ _ _ _ _ _ c.loop-row.invariant.1 c.in_err-put_block.ensures.text)

pub returns : goal.returns
returns g c =
    let e : c.loop-row.row ≡ c.args.row_count = omega (arith, c.loop-row.invariant.0, c.loop-row-test.false) in
    subst (PutsText _ _ (Ok tt) _ _) (ap (λ n. records_text (row_records (map column_of c.args.columns.now) n)) e)
    c.loop-row.invariant.1
