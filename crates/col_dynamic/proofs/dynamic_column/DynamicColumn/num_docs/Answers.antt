use Rattle.std.proofs.Common.{◌∙◌, ap}
use Rattle.col_text.specs.Columns.{num_docs_in}
use Rattle.col_text.specs.NumValues.{num_values_of}
use Rattle.col_dynamic.specs.declared.dynamic_column.DynamicColumn.TheVariants as columns
use Rattle.col_dynamic.proofs.dynamic_column.DynamicColumn.num_docs.Goals as goal
use Rattle.col_dynamic.proofs.RowLemmas.{rows-counted}

pub returns-in-Bool : goal.returns-in-Bool
returns-in-Bool c = rows-counted c.args.self.now (columns.Bool c.in-Bool.column) c.in-Bool.is c.num_docs.result c.num_docs.ensures

pub returns-in-I64 : goal.returns-in-I64
returns-in-I64 c = rows-counted c.args.self.now
    (columns.I64 c.in-I64.column) c.in-I64.is c.num_docs-in-I64.result c.num_docs-in-I64.ensures

pub returns-in-U64 : goal.returns-in-U64
returns-in-U64 c = rows-counted c.args.self.now
    (columns.U64 c.in-U64.column) c.in-U64.is c.num_docs-in-U64.result c.num_docs-in-U64.ensures

pub returns-in-IpAddr : goal.returns-in-IpAddr
returns-in-IpAddr c = rows-counted c.args.self.now
    (columns.IpAddr c.in-IpAddr.column) c.in-IpAddr.is c.num_docs-in-IpAddr.result c.num_docs-in-IpAddr.ensures

pub returns-in-DateTime : goal.returns-in-DateTime
returns-in-DateTime c = rows-counted c.args.self.now
    (columns.DateTime c.in-DateTime.column) c.in-DateTime.is c.num_docs-in-DateTime.result c.num_docs-in-DateTime.ensures

pub returns-in-Bytes : goal.returns-in-Bytes
returns-in-Bytes c = rows-counted c.args.self.now (columns.Bytes c.in-Bytes.column) c.in-Bytes.is c.num_rows.result c.num_rows.ensures

pub returns-in-Str : goal.returns-in-Str
returns-in-Str c = rows-counted c.args.self.now (columns.Str c.in-Str.column) c.in-Str.is c.num_rows-in-Str.result
    (c.num_rows-in-Str.ensures ∙ ap (λ t. num_docs_in num_values_of t.ords) c.bytes_column.ensures)
