use Rattle.std.proofs.Common.{◌++◌, ◌∷◌, [], List, ℕ, sym, ap, ◌∙◌}
use Rattle.col_places.proofs.ClearLemmas.{clear-less, clear-more}
use Rattle.col_places.proofs.alive.clear_rows.Goals as goal
use Rattle.col_places.proofs.alive.clear_rows.Goals.{then-not-is_set+in_ok-push, else-not-is_set}

pub loop-row-preserved : goal.loop-row-preserved
loop-row-preserved c =
    let words = c.args.words.now in
    let row = c.loop-row.row in
    elim c.if-not-is_set.branch [
      | then-not-is_set+in_ok-push w ↦
          rw w.rows-is (w.in_ok-push.ensures.items ∙ ap (λ (rows : List ℕ). rows ++ row ∷ []) c.loop-row.invariant
          ∙ sym (clear-more words row (sym w.if-not-is_set.ensures)))
      | else-not-is_set w ↦
          rw w.rows-is (c.loop-row.invariant ∙ sym (clear-less words row (sym w.if-not-is_set.ensures)))
    ]
