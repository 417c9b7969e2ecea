use Rattle.std.proofs.Common.{◌+◌, subst}
use Rattle.col_text.specs.Texts.{Texts, EndAt}
use Rattle.col_text.proofs.TermRangeLemmas.{end-at, end-gap}
use Rattle.col_text.proofs.dictionary_encoded.BytesColumn.end_of.Goals as goal

pub returns-in-Exact : goal.returns-in-Exact
returns-in-Exact c =
    let key = c.args.key.now in
    let ord = c.in-Exact.ord in
    subst (λ (t : Texts). EndAt t.terms key (ord + 1)) c.self.view_is
    (end-at c.self.inside.dictionary key ord c.self.invariant.ascend c.in-Exact.ensures)

pub returns-in-Next : goal.returns-in-Next
returns-in-Next c =
    let key = c.args.key.now in
    let ord = c.in-Next.ord in
    subst (λ (t : Texts). EndAt t.terms key ord) c.self.view_is (end-gap c.self.inside.dictionary key ord c.in-Next.ensures)
