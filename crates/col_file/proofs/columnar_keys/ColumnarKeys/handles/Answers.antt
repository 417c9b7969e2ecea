use Rattle.std.proofs.Common.{◌+◌, refl, ◌∙◌, arith}
use Rattle.col_file.proofs.ListLemmas.{handles-next}
use Rattle.col_file.proofs.columnar_keys.ColumnarKeys.handles.Goals as goal

pub loop-at-preserved : goal.loop-at-preserved
loop-at-preserved c =
    c.in_ok-push.ensures.items
    ∙ handles-next c.args.self.now.entries c.args.start c.loop-at.at (c.loop-at.at + 1) c.handle_at.result
    c.loop-at.found.items (omega arith) refl c.handle_at.ensures c.loop-at.invariant
