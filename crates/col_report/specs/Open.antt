-- The text of a report that is open.
use Rattle.std.specs.Prelude.{ℕ, Bool, List, ◌∷◌, ◌++◌, flat_map}
use Rattle.col_opened.specs.Opened.{column_of, open_in}
use Rattle.col_opened.specs.declared.open_columns.OpenColumns.{OpenColumns}
use Rattle.col_program.specs.Report.{rows_line, column_lines, lines_text}

-- the lines of a row count and of open columns, and the text of answers behind them
unfoldable pub report_text : ℕ → Bool → OpenColumns → List ℕ → List ℕ
report_text rows short columns answers =
    lines_text (rows_line rows ∷ flat_map (λ c. column_lines short (column_of c)) (open_in columns))
    ++ answers
