use Rattle.std.proofs.Common.{◌≢◌, sym, ◌∙◌, ap}
use Rattle.std.specs.Ordering.{nat_cmp}
use Rattle.col_terms.specs.TermTable.{head_of}
use Rattle.col_terms.proofs.HeadLemmas.{heads_decide}
use Rattle.col_terms.proofs.table.compare.Goals as goal

pub returns-then-left_head-right_head : goal.returns-then-left_head-right_head
returns-then-left_head-right_head c =
    let apart : head_of c.args.left.now ≢ head_of c.args.right.now =
    λ e. c.if-left_head-right_head.true
    (c.head-left_head.ensures.number ∙ e ∙ sym c.head-right_head.ensures.number) in
    c.cmp.ensures ∙ ap (λ x. nat_cmp x c.head-right_head.result) c.head-left_head.ensures.number
    ∙ ap (nat_cmp (head_of c.args.left.now)) c.head-right_head.ensures.number
    ∙ heads_decide 8 c.args.left.now c.args.right.now c.head-left_head.ensures.bytes c.head-right_head.ensures.bytes apart
