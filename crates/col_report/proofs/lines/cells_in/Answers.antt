use Rattle.std.proofs.Common.{ℕ, map, ap, ◌∙◌}
use Rattle.col_column.specs.Columns.{Seen, rows_of_values}
use Rattle.col_model.specs.Column.{term_cell}
use Rattle.col_model.specs.Limits.{cell_count}
use Rattle.col_model.specs.Table.{number}
use Rattle.col_numbers.specs.NumValues.{num_values_of}
use Rattle.col_numbers.specs.declared.num_values.NumValues.{NumValues}
use Rattle.col_text.specs.Texts.{Texts}
use Rattle.col_types.specs.Cells.{unsigned_cell, bool_cell}
use Rattle.col_report.proofs.lines.cells_in.Goals as goal

pub returns-in-Bool : goal.returns-in-Bool
returns-in-Bool c = rw c.in-Bool.is (c.values_in.ensures bool_cell)

pub returns-in-I64 : goal.returns-in-I64
returns-in-I64 c = rw c.in-I64.is (c.values_in-in-I64.ensures (λ z. number z))

pub returns-in-U64 : goal.returns-in-U64
returns-in-U64 c = rw c.in-U64.is (c.values_in-in-U64.ensures unsigned_cell)

pub returns-in-IpAddr : goal.returns-in-IpAddr
returns-in-IpAddr c = rw c.in-IpAddr.is (c.values_in-in-IpAddr.ensures unsigned_cell)

pub returns-in-DateTime : goal.returns-in-DateTime
returns-in-DateTime c = rw c.in-DateTime.is (c.values_in-in-DateTime.ensures (λ z. number z))

pub returns-in-Bytes : goal.returns-in-Bytes
returns-in-Bytes c =
    let cell = term_cell c.in-Bytes.column.terms in
    rw c.in-Bytes.is (c.values_in-in-Bytes.ensures cell
    ∙ ap (λ (o : Seen (NumValues ℕ)). cell_count (map (map cell) (rows_of_values num_values_of o))) c.ords.ensures)

pub returns-in-Str : goal.returns-in-Str
returns-in-Str c =
    let cell = term_cell c.in-Str.column.terms in
    rw c.in-Str.is (c.values_in-in-Str.ensures cell
    ∙ ap (λ (o : Seen (NumValues ℕ)). cell_count (map (map cell) (rows_of_values num_values_of o)))
    (c.ords-in-Str.ensures ∙ ap (λ (t : Texts). t.ords) c.bytes_column.ensures))
