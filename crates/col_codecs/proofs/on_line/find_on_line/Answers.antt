use Rattle.std.proofs.Common.{◌-◌, ◌∙◌, sym, arith}
use Rattle.col_codecs.specs.OnLine.{on_line}
use Rattle.col_codecs.proofs.BoundedItemLemmas.{ids_by-none}
use Rattle.col_codecs.proofs.on_line.find_on_line.Goals as goal

pub returns-then-ids : goal.returns-then-ids
returns-then-ids c =
    let a = c.args in
    c.clear.ensures.items ∙ sym (ids_by-none (on_line a.line) a.low a.high a.ids.start (a.ids.«end» - a.ids.start) (omega arith))
