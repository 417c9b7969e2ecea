use Rattle.std.proofs.Common.{◌≤◌, take}
use Rattle.col_common.specs.Outside.{Grows}
use Rattle.col_file.specs.Readers.{Reads}
use Rattle.col_upgrade.specs.Upgrades.{PutSoFar}
use Rattle.col_upgrade.proofs.whole_file.put_all.Given as goal

abbrev pub invariant-loop-entry : goal.invariant-loop-entry
invariant-loop-entry g l = record {
  kept : Reads l.entry-index l.fn.reader l.reader;
  grown : Grows (g.K.Sink.seen l.fn.output) (g.K.Sink.seen l.output);
  later : (g.K.Sink.seen l.fn.output).faults ≤ (g.K.Sink.seen l.output).faults;
  put : PutSoFar l.fn.reader (g.K.Sink.seen l.fn.output) (g.K.Sink.seen l.output) l.columns
      (take l.entry-index l.fn.reader.keys.entries);
}
