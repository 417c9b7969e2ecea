use Rattle.std.proofs.Common.{arith, ◌∙◌}
use Rattle.std.proofs.lemmas.List.FromFn.{length-enumerate_from}
use Rattle.col_codecs.proofs.LineLemmas.{line_of-parts}
use Rattle.col_codecs.proofs.line.Line.train.Goals as goal

pub train_from-requires-clause-items : goal.train_from-requires-clause-items
train_from-requires-clause-items g c = omega (arith, length-enumerate_from 0 (g.V.ColumnValues.values c.args.ys.now), c.requires)

pub returns : goal.returns
returns g c =
    c.train_from.ensures
    ∙ line_of-parts _ _ _ _ c.num_vals-num_vals.ensures c.get_val-first_val.ensures c.get_val-last_val.ensures
