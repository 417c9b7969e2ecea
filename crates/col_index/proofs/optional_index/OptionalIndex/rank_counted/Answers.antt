use Rattle.std.proofs.Common.{◌≡◌, length, sym, ap, ◌∙◌, arith}
use Rattle.col_model.specs.Index.{RowSet}
use Rattle.col_model.proofs.RowRunLaws.{runs-few}
use Rattle.col_index.specs.Held.{set_held}
use Rattle.col_index.proofs.optional_index.OptionalIndex.rank_counted.Goals as goal

pub returns-in-Listed-clause-least : goal.returns-in-Listed-clause-least
returns-in-Listed-clause-least g c =
    let same : c.in-Listed.rows ≡ c.args.self.now = sym (ap set_held c.in-Listed.is) ∙ c.self.view_is in
    omega (arith, runs-few c.args.self.now.rows, c.rank_counted.ensures.least, ap (λ (s : RowSet). length s.rows) same)
