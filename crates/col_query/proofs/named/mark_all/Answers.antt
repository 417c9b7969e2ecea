use Rattle.std.proofs.Common.{◌≡◌, ◌+◌, Some, [], ◌∷◌, ◌++◌, slice_get, take, sym, ap, ◌∙◌, subst, add-one, arith}
use Rattle.std.proofs.lemmas.Option.{slice_get-get_or}
use Rattle.col_file.proofs.ListLemmas.{take-next}
use Rattle.col_query.specs.Named.{AreMarks}
use Rattle.col_query.proofs.NamedLemmas.{marks-more}
use Rattle.col_query.proofs.named.mark_all.Goals as goal

pub loop-step-preserved : goal.loop-step-preserved
loop-step-preserved g c =
    let ss = c.args.steps.now in
    let at = c.loop-step.step-index in
    let s = c.step-item.result in
    let es = c.args.reader.now.keys.entries in
    let here : slice_get ss at ≡ Some s =
    slice_get-get_or ss at s (omega (arith, c.loop-step-test.true)) ∙ ap Some (sym c.step-item.is) in
    let took : take (at + 1) ss ≡ take at ss ++ s ∷ [] = ap (λ n. take n ss) (add-one at) ∙ take-next ss at s here in
    record {
      marks = subst (λ front. AreMarks front es c.mark.new.named) (sym took)
          (subst (AreMarks (take at ss ++ s ∷ []) es) (sym c.mark.ensures)
          (marks-more (take at ss) s es c.loop-step.named c.place_named.result c.loop-step.invariant.marks
          c.place_named.ensures.place c.place_named.ensures.some));
    }
