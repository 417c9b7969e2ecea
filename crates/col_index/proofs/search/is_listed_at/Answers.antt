use Rattle.std.proofs.Common.{nat_eq, sym, ap, ◌∙◌, arith}
use Rattle.std.proofs.lemmas.Bool.{le-ltb}
use Rattle.col_numbers.specs.Readers.{list_of}
use Rattle.col_index.proofs.RangeLemmas.{past-free}
use Rattle.col_index.proofs.SetLemmas.{holds_compared}
use Rattle.col_index.proofs.search.is_listed_at.Goals as goal

pub returns-then-at-num_vals : goal.returns-then-at-num_vals
returns-then-at-num_vals c =
    ap (λ n. nat_eq c.get_val.result n) c.from.ensures
    ∙ holds_compared (list_of c.args.rows.now) c.args.row c.args.at c.get_val.result c.requires.rising c.requires.at c.get_val.ensures

pub returns-else-at-num_vals : goal.returns-else-at-num_vals
returns-else-at-num_vals c =
    le-ltb c.args.at c.num_vals.result c.if-at-num_vals.false
    ∙ sym (past-free (list_of c.args.rows.now) c.args.row c.requires.rising (omega (arith, c.requires.at)))
