use Rattle.std.proofs.Common.{length, ◌==◌, ◌&&◌, sym, ap, ◌∙◌}
use Rattle.std.proofs.lemmas.Bool.{eq-eqb, ne_eqb}
use Rattle.col_column.proofs.OpenCountLemmas.{set-exact}
use Rattle.col_column.proofs.open.counts_exactly.Goals as goal

pub returns-then-num_docs-num_rows-2 : goal.returns-then-num_docs-num_rows-2
returns-then-num_docs-num_rows-2 c =
    let s = c.in-Optional.set in
    let exact = set-exact c.args.num_rows c.args.num_vals s c.rows_rise.ensures in
    let same = eq-eqb s.num_rows c.args.num_rows (sym c.num_docs.ensures ∙ c.if-num_docs-num_rows-2.true) in
    rw c.in-Optional.is (ap (λ n. n == c.args.num_vals) c.num_non_nulls.ensures
    ∙ sym (exact ∙ ap (λ b. b && (length s.rows == c.args.num_vals)) same))

pub returns-else-num_docs-num_rows-2 : goal.returns-else-num_docs-num_rows-2
returns-else-num_docs-num_rows-2 c =
    let s = c.in-Optional.set in
    let exact = set-exact c.args.num_rows c.args.num_vals s c.rows_rise.ensures in
    let other = ne_eqb c.num_docs.result c.args.num_rows c.if-num_docs-num_rows-2.false in
    rw c.in-Optional.is (other
    ∙ sym (exact ∙ ap (λ b. b && (length s.rows == c.args.num_vals))
    (sym (ap (λ n. n == c.args.num_rows) c.num_docs.ensures) ∙ other)))
