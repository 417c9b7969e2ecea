use Rattle.std.proofs.Common.{sym, map}
use Rattle.serde_json.specs.View.{view}
use Rattle.col_lines.proofs.WordLemmas.{no_control}
use Rattle.col_lines.proofs.line.parse_control.Goals as goal

pub returns-in_default-word : goal.returns-in_default-word
returns-in_default-word c =
    let w = c.in_default-word in
    sym (no_control (view c.args.head.now) (map view c.args.rest.now) c.in-Some.word.now (sym c.in-Some.ensures)
    w.not-segment w.not-type w.not-sorted w.not-tie w.not-require w.not-order w.not-sort w.not-find w.not-facet w.not-query)
