use Rattle.std.proofs.Common.{◌≡◌, rules, sym, ap, ◌∙◌, arith}
use Rattle.col_model.specs.Positions.{rank}
use Rattle.col_index.proofs.SearchLemmas.{rank_of_zero}
use Rattle.col_index.proofs.non_null_docs.NonNullDocsIterableDocId.walk.Goals as goal

pub returns-clause-stands : goal.returns-clause-stands
returns-clause-stands c =
    let inner : c.default.result.inner ≡ 0 = search rules in
    let place : c.default.result.place ≡ 0 = search rules in
    let sum : c.default.result.sum ≡ 0 = search rules in
    record {
      ranked = record {
        ranked = ap (rank c.args.self.now) inner ∙ sym (rank_of_zero c.args.self.now) ∙ sym place;
        small = omega (arith, inner);
      };
      follow = λ k from upto. absurd (omega (arith, sum, upto));
    }
