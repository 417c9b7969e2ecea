use Rattle.std.proofs.Common.{codes, ap, ◌∙◌}
use Rattle.serde_json.specs.Data.{string}
use Rattle.col_gen.proofs.AddedLemmas.{find-printed}
use Rattle.col_gen.proofs.lookups.push_addr_find.Goals as goal

pub returns : goal.returns
returns c =
    find-printed c.push_find.result _ _ (codes "addr") (codes "ip") _ _ _ _ _ _
    (c.from-low.ensures ∙ ap string c.in_ok-first.ensures) (c.from-high.ensures ∙ ap string c.in_ok-last.ensures)
    c.push_find.ensures
