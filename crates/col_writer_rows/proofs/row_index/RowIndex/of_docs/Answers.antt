use Rattle.std.proofs.Common.{◌∙◌, sym, arith, ◌<◌, ◌^◌, subst}
use Rattle.col_writer_rows.specs.Counted.{counts_of_rows, CountsRows}
use Rattle.col_writer_rows.proofs.IndexLemmas.{full-docs, rising-indexed, if_ok-is}
use Rattle.col_writer_rows.proofs.row_index.RowIndex.of_docs.Goals as goal

pub returns-then-len-from : goal.returns-then-len-from
returns-then-len-from c = subst (CountsRows (counts_of_rows c.args.num_rows c.args.docs.now)) (sym c.full.ensures)
    (full-docs c.args.num_rows c.args.docs.now (sym c.is_rising.ensures ∙ c.if-not-is_rising.false) c.requires.below
    (sym c.len.ensures ∙ c.if-len-from.true ∙ c.from.ensures))

pub returns : goal.returns
returns c =
    let fits : c.args.num_rows < 2 ^ 32 = omega arith in
    if_ok-is (counts_of_rows c.args.num_rows c.args.docs.now) c.of_rows.result _ c.of_rows.ensures
    (rising-indexed c.args.num_rows c.args.docs.now fits (sym c.is_rising.ensures ∙ c.if-not-is_rising.false)
    c.never_fall.ensures c.requires.below (λ e. c.if-len-from.false (c.len.ensures ∙ e ∙ sym c.from.ensures)))
