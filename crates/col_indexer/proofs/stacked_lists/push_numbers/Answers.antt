use Rattle.std.proofs.Common.{◌≡◌, ◌+◌, ◌++◌, [], ◌∷◌, ap, sym, ◌∙◌, append_assoc, arith}
use Rattle.std.specs.List.{range_with_len}
use Rattle.col_model.proofs.ListLaws.{range-more}
use Rattle.col_indexer.proofs.stacked_lists.push_numbers.Goals as goal

pub loop-number-preserved : goal.loop-number-preserved
loop-number-preserved c =
    let front = c.args.starts.now.items in
    let before = range_with_len (c.args.before + 1) c.loop-number.number in
    let item : c.args.before + c.from.result + 1 ≡ c.args.before + 1 + c.loop-number.number = omega (arith, c.from.ensures) in
    c.in_ok-push.ensures.items
    ∙ ap (λ items. items ++ (c.args.before + c.from.result + 1) ∷ []) c.loop-number.invariant
    ∙ append_assoc front before _
    ∙ ap (λ n. front ++ (before ++ n ∷ [])) item
    ∙ ap (λ items. front ++ items) (sym (range-more (c.args.before + 1) c.loop-number.number))
