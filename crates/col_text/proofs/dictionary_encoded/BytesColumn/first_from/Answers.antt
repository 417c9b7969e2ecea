use Rattle.std.proofs.Common.{subst}
use Rattle.col_text.specs.Texts.{Texts, StartAt}
use Rattle.col_text.proofs.TermRangeLemmas.{start-at, start-gap}
use Rattle.col_text.proofs.dictionary_encoded.BytesColumn.first_from.Goals as goal

pub returns-in-Exact : goal.returns-in-Exact
returns-in-Exact c =
    let key = c.args.key.now in
    let ord = c.in-Exact.ord in
    subst (λ (t : Texts). StartAt t.terms key ord) c.self.view_is
    (start-at c.self.inside.dictionary key ord c.self.invariant.ascend c.in-Exact.ensures)

pub returns-in-Exact-2 : goal.returns-in-Exact-2
returns-in-Exact-2 c =
    let key = c.args.key.now in
    let ord = c.in-Exact.ord in
    subst (λ (t : Texts). StartAt t.terms key ord) c.self.view_is (start-gap c.self.inside.dictionary key ord c.in-Exact.ensures)
