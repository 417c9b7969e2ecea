use Rattle.std.proofs.Common.{◌≡◌, [], IfOk, map, subst}
use Rattle.std.specs.List.{range_with_len}
use Rattle.col_model.specs.Cells.{bool_cell, unsigned_cell}
use Rattle.col_model.specs.Column.{term_cell}
use Rattle.col_model.specs.ColumnType as types
use Rattle.col_model.specs.Table.{number}
use Rattle.col_column.specs.Columns.{num_docs_in, rows_of_values}
use Rattle.col_column.specs.IpValues.{ip_values_of}
use Rattle.col_dynamic.specs.declared.dynamic_column.DynamicColumn.TheVariants as columns
use Rattle.col_numbers.specs.NumValues.{num_values_of}
use Rattle.col_text.specs.Texts.{Texts}
use Rattle.col_facet.specs.Facets.{facets_of}
use Rattle.col_facet.specs.Tables.{term_at}
use Rattle.col_facet.specs.Values.{values_in_rows}
use Rattle.col_facet.proofs.whole.facet_all.Goals as goal
use Rattle.col_facet.proofs.FacetLemmas.{all-facets-of, all-cells, found-ascend}

pub returns-in-Bool-clause-ok : goal.returns-in-Bool-clause-ok
returns-in-Bool-clause-ok c =
    all-facets-of c.all_numbers.result c.args.column.now (columns.Bool c.in-Bool.column) c.in-Bool.is
    (all-cells c.all_numbers.result types.bool [] bool_cell
    c.in-Bool.column.shape (num_values_of c.in-Bool.column.values) c.all_numbers.ensures)

pub returns-in-Bool-clause-ascending : goal.returns-in-Bool-clause-ascending
returns-in-Bool-clause-ascending c = found-ascend c.all_numbers.result _ c.all_numbers.ensures

pub returns-in-I64-clause-ok : goal.returns-in-I64-clause-ok
returns-in-I64-clause-ok c =
    all-facets-of c.all_numbers-in-I64.result c.args.column.now (columns.I64 c.in-I64.column) c.in-I64.is
    (all-cells c.all_numbers-in-I64.result types.i64 [] number
    c.in-I64.column.shape (num_values_of c.in-I64.column.values) c.all_numbers-in-I64.ensures)

pub returns-in-I64-clause-ascending : goal.returns-in-I64-clause-ascending
returns-in-I64-clause-ascending c = found-ascend c.all_numbers-in-I64.result _ c.all_numbers-in-I64.ensures

pub returns-in-U64-clause-ok : goal.returns-in-U64-clause-ok
returns-in-U64-clause-ok c =
    all-facets-of c.all_numbers-in-U64.result c.args.column.now (columns.U64 c.in-U64.column) c.in-U64.is
    (all-cells c.all_numbers-in-U64.result types.u64 [] unsigned_cell
    c.in-U64.column.shape (num_values_of c.in-U64.column.values) c.all_numbers-in-U64.ensures)

pub returns-in-U64-clause-ascending : goal.returns-in-U64-clause-ascending
returns-in-U64-clause-ascending c = found-ascend c.all_numbers-in-U64.result _ c.all_numbers-in-U64.ensures

pub returns-in-IpAddr-clause-ok : goal.returns-in-IpAddr-clause-ok
returns-in-IpAddr-clause-ok c =
    all-facets-of c.all_addresses.result c.args.column.now (columns.IpAddr c.in-IpAddr.column) c.in-IpAddr.is
    (all-cells c.all_addresses.result types.ip [] unsigned_cell
    c.in-IpAddr.column.shape (ip_values_of c.in-IpAddr.column.values) c.all_addresses.ensures)

pub returns-in-IpAddr-clause-ascending : goal.returns-in-IpAddr-clause-ascending
returns-in-IpAddr-clause-ascending c = found-ascend c.all_addresses.result _ c.all_addresses.ensures

pub returns-in-DateTime-clause-ok : goal.returns-in-DateTime-clause-ok
returns-in-DateTime-clause-ok c =
    all-facets-of c.all_numbers-in-DateTime.result c.args.column.now (columns.DateTime c.in-DateTime.column) c.in-DateTime.is
    (all-cells c.all_numbers-in-DateTime.result types.datetime [] number
    c.in-DateTime.column.shape (num_values_of c.in-DateTime.column.values) c.all_numbers-in-DateTime.ensures)

pub returns-in-DateTime-clause-ascending : goal.returns-in-DateTime-clause-ascending
returns-in-DateTime-clause-ascending c = found-ascend c.all_numbers-in-DateTime.result _ c.all_numbers-in-DateTime.ensures

pub returns-in-Bytes-clause-ok : goal.returns-in-Bytes-clause-ok
returns-in-Bytes-clause-ok c =
    let texts = c.in-Bytes.column in
    all-facets-of c.all_terms.result c.args.column.now (columns.Bytes texts) c.in-Bytes.is
    (all-cells c.all_terms.result types.bytes texts.terms (term_cell texts.terms) texts.ords.shape
    (num_values_of texts.ords.values) c.all_terms.ensures)

pub returns-in-Bytes-clause-ascending : goal.returns-in-Bytes-clause-ascending
returns-in-Bytes-clause-ascending c = found-ascend c.all_terms.result _ c.all_terms.ensures

pub returns-in-Str-clause-ok : goal.returns-in-Str-clause-ok
returns-in-Str-clause-ok c =
    let texts = c.in-Str.column in
    all-facets-of c.all_terms-in-Str.result c.args.column.now (columns.Str texts) c.in-Str.is
    (all-cells c.all_terms-in-Str.result types.str texts.terms (term_cell texts.terms) texts.ords.shape
    (num_values_of texts.ords.values)
    (subst (λ (t : Texts). IfOk c.all_terms-in-Str.result (λ v. v.items ≡ facets_of (map (term_at t.terms)
    (values_in_rows (rows_of_values num_values_of t.ords) (range_with_len 0 (num_docs_in num_values_of t.ords))))))
    c.bytes_column.ensures c.all_terms-in-Str.ensures))

pub returns-in-Str-clause-ascending : goal.returns-in-Str-clause-ascending
returns-in-Str-clause-ascending c = found-ascend c.all_terms-in-Str.result _ c.all_terms-in-Str.ensures
