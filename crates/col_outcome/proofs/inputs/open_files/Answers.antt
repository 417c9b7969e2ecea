use Rattle.std.proofs.Common.{Some, ap, ◌∙◌, arith}
use Rattle.col_common.specs.Memory.{Scheduled}
use Rattle.col_outcome.proofs.OpeningLemmas.{have_opened-more}
use Rattle.col_outcome.proofs.inputs.open_files.Goals as goal

pub loop-place-preserved : goal.loop-place-preserved
loop-place-preserved g c = record {
  opened =
      have_opened-more c.args.files.now c.args.readers.now.items c.loop-place.place _ c.loop-place.readers.items
      c.push_reserved.new.self.items c.index-files-place.result c.in-Ok.reader c.loop-place.invariant.opened
      (omega (arith, c.loop-place-test.true, c.loop-place.auto.place-end)) (omega arith)
      (c.in-Ok.ensures.1.told ∙ ap (λ (m : Scheduled). Some m.bytes) c.new-in-loop-place.ensures
      ∙ ap Some c.in_ok-clone.ensures.cases ∙ ap Some c.index-files-place.is)
      c.in-Ok.ensures.1.mark c.push_reserved.ensures.items;
  many = omega (arith, c.push_reserved.ensures.len, c.loop-place.invariant.many);
  room = c.push_reserved.ensures.capacity ∙ c.loop-place.invariant.room;
}
