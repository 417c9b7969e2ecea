use Rattle.std.proofs.Common.{◌∙◌, ap, sym, arith, map, filter, not, ◌+◌}
use Rattle.std.proofs.lemmas.List.{take_all}
use Rattle.col_model.specs.Written.{has_zero}
use Rattle.col_writer_file.specs.Tables.{named_entry}
use Rattle.col_writer_file.proofs.TableLemmas.{named-more, named-less}
use Rattle.col_writer_file.proofs.table.columns_of_table.Goals as goal
use Rattle.col_writer_file.proofs.table.columns_of_table.Goals.{then-is_named+in_ok-push, else-is_named}

pub loop-column-init : goal.loop-column-init
loop-column-init c = ap (map named_entry) c.new-named.ensures.items

pub loop-column-preserved : goal.loop-column-preserved
loop-column-preserved c =
    elim c.if-is_named.branch [
      | then-is_named+in_ok-push w ↦ ap (λ v. map named_entry v.items) w.named-is
          ∙ named-more c.args.columns.now c.loop-column.column-index (c.loop-column.column-index + 1)
          c.column-item.result c.column-item.result c.loop-column.named.items w.push.new.self.items
          c.loop-column.invariant c.loop-column-test.true (omega arith) c.column-item.is (sym c.is_named.ensures
          ∙ w.if-is_named.true) w.in_ok-push.ensures.items
      | else-is_named w ↦ ap (λ v. map named_entry v.items) w.named-is
          ∙ named-less c.args.columns.now c.loop-column.column-index (c.loop-column.column-index + 1)
          c.column-item.result c.column-item.result c.loop-column.named.items c.loop-column.invariant
          c.loop-column-test.true (omega arith) c.column-item.is (sym c.is_named.ensures ∙ w.if-is_named.false)
    ]

pub returns : goal.returns
returns c =
    c.loop-column.invariant
    ∙ ap (λ ys. filter (λ p. not (has_zero p.0.name)) (map named_entry ys))
    (take_all c.loop-column.column-index c.args.columns.now (omega arith))
