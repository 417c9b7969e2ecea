use Rattle.std.proofs.Common.{List, ℕ, Ok, subst}
use Rattle.col_segments.proofs.MergeLemmas.{compacts-live}
use Rattle.col_set.specs.Sets.{WritesBytes}
use Rattle.col_set.proofs.set.SegmentSet.write.Goals as goal

pub returns : goal.returns
returns g c =
    let made = c.in-Ok.ensures.file in
    let a = g.K.Sink.seen c.args.sink.now in
    let b = g.K.Sink.seen c.write_bytes.new.sink in
    let bytes = subst (λ (bytes : List ℕ). WritesBytes a b c.write_bytes.result bytes) c.deref.ensures c.write_bytes.ensures in
    record {
      compaction = Ok tt;
      changes = c.in-Ok.ensures.changes;
      live = compacts-live c.args.self.now.held c.compact_file.new.self.held c.in-Ok.file made;
      known = tt;
      written = (made.table, c.in-Ok.file, made.is, made.stands, bytes);
    }
