use Rattle.std.proofs.Common.{◌≡◌, fold, min, max, map, drop}
use Rattle.std.specs.List.{enumerate_from}
use Rattle.col_model.specs.Codecs.{deviation, deviations}
use Rattle.col_codecs.specs.Line.{line_seen}
use Rattle.col_codecs.proofs.linear.estimator.deviation_bounds.Given as goal

abbrev pub invariant-loop-val : goal.invariant-loop-val
invariant-loop-val l =
    (l.row_id ≡ l.val-index) × (
    fold min l.least (map (deviation (line_seen l.line)) (enumerate_from l.row_id (drop l.row_id l.vals)))
    ≡ fold min 0xffff_ffff_ffff_ffff (deviations (line_seen l.line) l.vals))
    × (fold max l.greatest (map (deviation (line_seen l.line)) (enumerate_from l.row_id (drop l.row_id l.vals)))
    ≡ fold max 0 (deviations (line_seen l.line) l.vals))
