use Rattle.std.proofs.Common.{◌∙◌, arith, map}
use Rattle.col_opened.specs.Opened.{column_of}
use Rattle.col_csv_export.proofs.BlockLemmas.{text-begun, text-none, text-next, text-kept}
use Rattle.col_csv_export.proofs.blocks.with_rows.Goals as goal
use Rattle.col_csv_export.proofs.blocks.with_rows.Goals.{then-loop-next-test+else-written-lt-HELD_LEN, else-loop-next-test}

pub loop-next-init : goal.loop-next-init
loop-next-init c = (
  omega arith,
  omega (arith, c.requires),
  omega arith,
  text-none (map column_of c.args.columns.now) c.args.before.items c.args.from _
      (text-begun _ _ c.from_writer-writer.ensures.wtr c.from_writer-writer.ensures.empty
      (c.from_writer-writer.ensures.cfg ∙ c.new.ensures) c.from_writer-writer.ensures.fields
      c.from_writer-writer.ensures.wrote),
)

pub loop-next-preserved : goal.loop-next-preserved
loop-next-preserved c = (
  omega (arith, c.loop-next.invariant.0),
  omega (arith, c.loop-next-test.true),
  omega (arith, c.loop-next.invariant.0, c.saturating_add-written.type_inv),
  text-next (map column_of c.args.columns.now) c.args.before.items c.args.from _ c.loop-next.next _
      c.loop-next.invariant.0 c.in_ok-fill_row.ensures (c.in_ok-write_row.ensures _ c.loop-next.invariant.3),
)

pub returns-in-Ok : goal.returns-in-Ok
returns-in-Ok c = record {
  begun = elim c.loop-next-test.branch [
    | then-loop-next-test+else-written-lt-HELD_LEN w ↦
        omega (arith, w.if-written-lt-HELD_LEN.false, c.loop-next.invariant.0, c.loop-next.invariant.2)
    | else-loop-next-test w ↦ omega (arith, w.loop-next-test.false, c.requires)
  ];
  within = c.loop-next.invariant.1;
  text = text-kept _ _ _ c.loop-next.invariant.3 c.in-Ok.ensures.ok;
}
