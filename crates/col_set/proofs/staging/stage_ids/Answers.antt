use Rattle.std.proofs.Common.{inr, refl, sym, ◌∙◌}
use Rattle.col_model.specs.Refusal.{bad_order}
use Rattle.col_segments.proofs.AddLemmas.{dropped-refused}
use Rattle.col_set.proofs.staging.stage_ids.Goals as goal

pub returns-then-not-are_places-clause-err : goal.returns-then-not-are_places-clause-err
returns-then-not-are_places-clause-err c =
    inr (bad_order, dropped-refused c.args.ids.now c.args.segments.now (sym c.are_places.ensures ∙ c.if-not-are_places.true), refl)
