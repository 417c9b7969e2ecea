use Rattle.col_query.proofs.stack.put_set.Goals as goal

pub returns : goal.returns
returns c = λ t q qs rest is. (c.args.set, c.args.sets.now.items, c.in_ok-push.ensures.items, is, rest)
