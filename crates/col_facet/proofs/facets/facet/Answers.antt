use Rattle.std.proofs.Common.{◌≡◌, [], IfOk, sym, map, subst}
use Rattle.col_common.specs.Ascending.{AreBelow}
use Rattle.col_model.specs.Cells.{bool_cell, unsigned_cell}
use Rattle.col_model.specs.Column.{term_cell}
use Rattle.col_model.specs.ColumnType as types
use Rattle.col_model.specs.Table.{number}
use Rattle.col_column.specs.Columns.{num_docs_in, rows_of_values}
use Rattle.col_column.specs.IpValues.{ip_values_of}
use Rattle.col_dynamic.specs.declared.dynamic_column.DynamicColumn.TheVariants as columns
use Rattle.col_numbers.specs.NumValues.{num_values_of}
use Rattle.col_text.specs.Texts.{Texts}
use Rattle.col_facet.specs.Facets.{facets_of}
use Rattle.col_facet.specs.Tables.{term_at}
use Rattle.col_facet.specs.Values.{values_in_rows}
use Rattle.col_facet.proofs.facets.facet.Goals as goal
use Rattle.col_facet.proofs.FacetLemmas.{docs-of, facets-of, found-cells, found-ascend}

pub number_facets-requires-clause-below : goal.number_facets-requires-clause-below
number_facets-requires-clause-below c = docs-of c.args.column.now
    (columns.Bool c.in-Bool.column) c.args.docs.now c.in-Bool.is c.requires.below

pub returns-in-Bool-clause-ok : goal.returns-in-Bool-clause-ok
returns-in-Bool-clause-ok c =
    facets-of c.number_facets.result c.args.column.now (columns.Bool c.in-Bool.column) c.args.docs.now c.in-Bool.is
    (found-cells c.number_facets.result types.bool [] bool_cell c.in-Bool.column.shape (num_values_of c.in-Bool.column.values)
    c.args.docs.now c.number_facets.ensures)

pub returns-in-Bool-clause-ascending : goal.returns-in-Bool-clause-ascending
returns-in-Bool-clause-ascending c = found-ascend c.number_facets.result _ c.number_facets.ensures

pub number_facets-requires-in-I64-clause-below : goal.number_facets-requires-in-I64-clause-below
number_facets-requires-in-I64-clause-below c = docs-of c.args.column.now
    (columns.I64 c.in-I64.column) c.args.docs.now c.in-I64.is c.requires.below

pub returns-in-I64-clause-ok : goal.returns-in-I64-clause-ok
returns-in-I64-clause-ok c =
    facets-of c.number_facets-in-I64.result c.args.column.now (columns.I64 c.in-I64.column) c.args.docs.now c.in-I64.is
    (found-cells c.number_facets-in-I64.result types.i64 [] number c.in-I64.column.shape (num_values_of c.in-I64.column.values)
    c.args.docs.now c.number_facets-in-I64.ensures)

pub returns-in-I64-clause-ascending : goal.returns-in-I64-clause-ascending
returns-in-I64-clause-ascending c = found-ascend c.number_facets-in-I64.result _ c.number_facets-in-I64.ensures

pub number_facets-requires-in-U64-clause-below : goal.number_facets-requires-in-U64-clause-below
number_facets-requires-in-U64-clause-below c = docs-of c.args.column.now
    (columns.U64 c.in-U64.column) c.args.docs.now c.in-U64.is c.requires.below

pub returns-in-U64-clause-ok : goal.returns-in-U64-clause-ok
returns-in-U64-clause-ok c =
    facets-of c.number_facets-in-U64.result c.args.column.now (columns.U64 c.in-U64.column) c.args.docs.now c.in-U64.is
    (found-cells c.number_facets-in-U64.result types.u64 [] unsigned_cell c.in-U64.column.shape
    (num_values_of c.in-U64.column.values)
    c.args.docs.now c.number_facets-in-U64.ensures)

pub returns-in-U64-clause-ascending : goal.returns-in-U64-clause-ascending
returns-in-U64-clause-ascending c = found-ascend c.number_facets-in-U64.result _ c.number_facets-in-U64.ensures

pub address_facets-requires-clause-below : goal.address_facets-requires-clause-below
address_facets-requires-clause-below c = docs-of c.args.column.now
    (columns.IpAddr c.in-IpAddr.column) c.args.docs.now c.in-IpAddr.is c.requires.below

pub returns-in-IpAddr-clause-ok : goal.returns-in-IpAddr-clause-ok
returns-in-IpAddr-clause-ok c =
    facets-of c.address_facets.result c.args.column.now (columns.IpAddr c.in-IpAddr.column) c.args.docs.now c.in-IpAddr.is
    (found-cells c.address_facets.result types.ip [] unsigned_cell c.in-IpAddr.column.shape
    (ip_values_of c.in-IpAddr.column.values)
    c.args.docs.now c.address_facets.ensures)

pub returns-in-IpAddr-clause-ascending : goal.returns-in-IpAddr-clause-ascending
returns-in-IpAddr-clause-ascending c = found-ascend c.address_facets.result _ c.address_facets.ensures

pub number_facets-requires-in-DateTime-clause-below : goal.number_facets-requires-in-DateTime-clause-below
number_facets-requires-in-DateTime-clause-below c = docs-of c.args.column.now
    (columns.DateTime c.in-DateTime.column) c.args.docs.now c.in-DateTime.is c.requires.below

pub returns-in-DateTime-clause-ok : goal.returns-in-DateTime-clause-ok
returns-in-DateTime-clause-ok c =
    facets-of c.number_facets-in-DateTime.result c.args.column.now (columns.DateTime c.in-DateTime.column) c.args.docs.now c.in-DateTime.is
    (found-cells c.number_facets-in-DateTime.result types.datetime [] number c.in-DateTime.column.shape
    (num_values_of c.in-DateTime.column.values)
    c.args.docs.now c.number_facets-in-DateTime.ensures)

pub returns-in-DateTime-clause-ascending : goal.returns-in-DateTime-clause-ascending
returns-in-DateTime-clause-ascending c = found-ascend c.number_facets-in-DateTime.result _ c.number_facets-in-DateTime.ensures

pub term_facets-requires-clause-below : goal.term_facets-requires-clause-below
term_facets-requires-clause-below c = docs-of c.args.column.now
    (columns.Bytes c.in-Bytes.column) c.args.docs.now c.in-Bytes.is c.requires.below

pub returns-in-Bytes-clause-ok : goal.returns-in-Bytes-clause-ok
returns-in-Bytes-clause-ok c =
    facets-of c.term_facets.result c.args.column.now (columns.Bytes c.in-Bytes.column) c.args.docs.now c.in-Bytes.is
    (found-cells c.term_facets.result types.bytes c.in-Bytes.column.terms
    (term_cell c.in-Bytes.column.terms) c.in-Bytes.column.ords.shape
    (num_values_of c.in-Bytes.column.ords.values) c.args.docs.now c.term_facets.ensures)

pub returns-in-Bytes-clause-ascending : goal.returns-in-Bytes-clause-ascending
returns-in-Bytes-clause-ascending c = found-ascend c.term_facets.result _ c.term_facets.ensures

pub term_facets-requires-in-Str-clause-below : goal.term_facets-requires-in-Str-clause-below
term_facets-requires-in-Str-clause-below c =
    subst (λ (t : Texts). AreBelow (num_docs_in num_values_of t.ords) c.args.docs.now) (sym c.bytes_column.ensures)
    (docs-of c.args.column.now (columns.Str c.in-Str.column) c.args.docs.now c.in-Str.is c.requires.below)

pub returns-in-Str-clause-ok : goal.returns-in-Str-clause-ok
returns-in-Str-clause-ok c =
    facets-of c.term_facets-in-Str.result c.args.column.now (columns.Str c.in-Str.column) c.args.docs.now c.in-Str.is
    (found-cells c.term_facets-in-Str.result types.str c.in-Str.column.terms
    (term_cell c.in-Str.column.terms) c.in-Str.column.ords.shape
    (num_values_of c.in-Str.column.ords.values) c.args.docs.now
    (subst (λ (t : Texts). IfOk c.term_facets-in-Str.result
    (λ v. v.items ≡ facets_of (map (term_at t.terms) (values_in_rows (rows_of_values num_values_of t.ords) c.args.docs.now))))
    c.bytes_column.ensures c.term_facets-in-Str.ensures))

pub returns-in-Str-clause-ascending : goal.returns-in-Str-clause-ascending
returns-in-Str-clause-ascending c = found-ascend c.term_facets-in-Str.result _ c.term_facets-in-Str.ensures
