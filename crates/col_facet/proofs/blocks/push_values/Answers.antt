use Rattle.std.proofs.Common.{◌≡◌, ◌++◌, length, OnOk, refl, sym, ◌∙◌, ap, subst, arith}
use Rattle.std.proofs.lemmas.Bool.{eqb-true, eqb-false}
use Rattle.std.proofs.lemmas.List.{append-nil, nil_from_length}
use Rattle.col_column.specs.Columns.{rows_of_values}
use Rattle.col_facet.specs.Values.{values_in_rows}
use Rattle.col_facet.proofs.blocks.push_values.Goals as goal
use Rattle.col_facet.proofs.DocLemmas.{values-none, neighbours-are}

pub returns-then-is_empty : goal.returns-then-is_empty
returns-then-is_empty g c =
    let rows = rows_of_values g.V.ColumnValues.values c.args.column.now in
    let none = nil_from_length c.args.docs.now (eqb-true (length c.args.docs.now) 0 (sym c.if-is_empty.ensures)) in
    sym (append-nil c.args.values.now.items)
    ∙ ap (λ vs. c.args.values.now.items ++ vs) (sym (ap (values_in_rows rows) none ∙ values-none rows))

pub returns-then-end-start : goal.returns-then-end-start
returns-then-end-start g c =
    let apart = eqb-false (length c.args.docs.now) 0 (sym c.if-is_empty.ensures) in
    subst (λ docs. OnOk c.push_rows.result (c.push_rows.new.values.items ≡ c.args.values.now.items
    ++ values_in_rows (rows_of_values g.V.ColumnValues.values c.args.column.now) docs))
    (sym (neighbours-are c.args.docs.now _ _ c.requires.rising (omega (arith, apart)) refl refl c.if-end-start.true)) c.push_rows.ensures
