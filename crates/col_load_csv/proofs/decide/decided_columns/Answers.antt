use Rattle.std.proofs.Common.{List, ◌+◌, map, string_bytes, arith, refl, sym, ap, subst, ◌∙◌}
use Rattle.col_load_csv.specs.Documents.{decided_by}
use Rattle.col_load_csv.specs.Read.{column_read}
use Rattle.col_load_csv.specs.Sights.{sight_under}
use Rattle.col_load_csv.specs.declared.column.Column.{Column}
use Rattle.col_load_csv.proofs.KindLemmas.{column_decided}
use Rattle.col_load_csv.proofs.PlaceLemmas.{AreMade, made_all, made_more}
use Rattle.col_load_csv.proofs.decide.decided_columns.Goals as goal

pub loop-column-preserved : goal.loop-column-preserved
loop-column-preserved c =
    let columns = c.args.columns.now in
    let column = c.column-item.result in
    let place = c.loop-column.column-index in
    let new : Column = record { name = c.in_ok-clone.field-0; form = column.form; kind = c.kind.result } in
    λ rows are.
    let decided = λ (k : Column). decided_by (map column_read columns) rows (column_read k) in
    let same = column_decided columns rows column new c.sight_under.result c.in_ok-clone.ensures.cases refl c.kind.ensures
    (c.sight_under.ensures ∙ ap (sight_under c.args.sights.now) c.as_str.ensures.value ∙ are (string_bytes column.name)) in
    subst (AreMade column_read decided columns (place + 1)) (sym {A = List Column} c.in_ok-push.ensures.items)
    (made_more column_read decided columns place c.loop-column.kinds.items new column (omega arith) c.column-item.is same
    (c.loop-column.invariant rows are))

pub returns : goal.returns
returns c =
    let columns = c.args.columns.now in
    λ rows are. made_all column_read (λ (k : Column). decided_by (map column_read columns) rows (column_read k)) columns
    c.loop-column.column-index c.loop-column.kinds.items (omega arith) (c.loop-column.invariant rows are)
