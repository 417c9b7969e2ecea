use Rattle.std.proofs.Common.{◌≡◌, ◌∙◌, [], refl, pos, to_z, of_z, sym, ap}
use Rattle.std.specs.Int.{w128}
use Rattle.std.proofs.lemmas.Int.{to_z-of_z}
use Rattle.col_report.proofs.CountLemmas.{unset-spelled, set-spelled}
use Rattle.col_report.proofs.PutLemmas.{data-put}
use Rattle.col_report.proofs.count_cells.put_flag.Goals as goal

pub returns-then-number-eq0 : goal.returns-then-number-eq0
returns-then-number-eq0 g c =
    let zero : c.args.number ≡ pos 0 =
    sym (to_z-of_z w128 c.args.number c.ranges.number) ∙ ap (to_z w128) c.if-number-eq0.true in
    data-put _ _ _ _ (unset-spelled [] _ c.args.number zero refl) c.put.ensures

pub returns-else-number-eq0 : goal.returns-else-number-eq0
returns-else-number-eq0 g c =
    data-put _ _ _ _ (set-spelled [] _ c.args.number (λ zero. c.if-number-eq0.false (ap (of_z w128) zero)) refl)
    c.put-else-number-eq0.ensures
