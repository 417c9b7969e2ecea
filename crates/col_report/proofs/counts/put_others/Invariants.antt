use Rattle.std.proofs.Common.{◌≡◌, ℕ, List, ◌++◌, map, drop}
use Rattle.col_types.specs.Kinds.{kind_of}
use Rattle.col_print.specs.Puts.{Puts}
use Rattle.col_report.specs.Counted.{shown_count}
use Rattle.col_report.specs.Printed.{more_text}
use Rattle.col_report.proofs.counts.put_others.Given as goal

-- what was put, and the text that is left behind it
abbrev pub invariant-loop-facet : goal.invariant-loop-facet
invariant-loop-facet g l =
    (done : List ℕ) × Puts (g.O.Out.seen l.initial.out) (g.O.Out.seen l.out) done
    × (done ++ more_text (map (shown_count (kind_of l.column_type)) (drop l.facet-index l.facets))
    ≡ more_text (map (shown_count (kind_of l.column_type)) l.facets))
