-- The ends of a column's values are those of its cells.
use Rattle.std.proofs.Common.{[], map, refl, sym, ◌∙◌, ap, subst}
use Rattle.col_model.specs.Cells.{bool_cell, unsigned_cell}
use Rattle.col_model.specs.ColumnType as types
use Rattle.col_model.specs.Table.{number}
use Rattle.col_column.specs.IpValues.{ip_values_of}
use Rattle.col_dynamic.specs.Dynamic.{dynamic_shape, value_count}
use Rattle.col_dynamic.specs.declared.dynamic_column.DynamicColumn.TheVariants as columns
use Rattle.col_column.specs.Columns.{IsCounted}
use Rattle.col_numbers.specs.NumValues.{num_values_of}
use Rattle.col_facet.specs.Facets.{facet_cell}
use Rattle.col_look.specs.FacetEnds.{ends_of}
use Rattle.col_look.proofs.ends.ends.Goals as goal
use Rattle.col_look.proofs.SeenLemmas.{ends-of, ends-of-terms, facets-seen}

pub returns-in-Bool : goal.returns-in-Bool
returns-in-Bool c =
    let d = columns.Bool c.in-Bool.column in
    let counted = subst (λ x. IsCounted (dynamic_shape x) (value_count x)) c.in-Bool.is c.values_are_counted.ensures in
    ends-of c.number_ends.result c.args.column.now d c.in-Bool.is
    (c.number_ends.ensures
    ∙ ap (λ v. ends_of (map (λ x. facet_cell types.bool (bool_cell x)) (num_values_of v))) c.values.ensures
    ∙ ap ends_of (sym (facets-seen [] bool_cell c.in-Bool.column.shape (num_values_of c.in-Bool.column.values) counted types.bool)))

pub returns-in-I64 : goal.returns-in-I64
returns-in-I64 c =
    let d = columns.I64 c.in-I64.column in
    let counted = subst (λ x. IsCounted (dynamic_shape x) (value_count x)) c.in-I64.is c.values_are_counted.ensures in
    ends-of c.number_ends-in-I64.result c.args.column.now d c.in-I64.is
    (c.number_ends-in-I64.ensures
    ∙ ap (λ v. ends_of (map (λ x. facet_cell types.i64 (number x)) (num_values_of v))) c.values-in-I64.ensures
    ∙ ap ends_of (sym (facets-seen [] number c.in-I64.column.shape (num_values_of c.in-I64.column.values) counted types.i64)))

pub returns-in-U64 : goal.returns-in-U64
returns-in-U64 c =
    let d = columns.U64 c.in-U64.column in
    let counted = subst (λ x. IsCounted (dynamic_shape x) (value_count x)) c.in-U64.is c.values_are_counted.ensures in
    ends-of c.number_ends-in-U64.result c.args.column.now d c.in-U64.is
    (c.number_ends-in-U64.ensures
    ∙ ap (λ v. ends_of (map (λ x. facet_cell types.u64 (unsigned_cell x)) (num_values_of v))) c.values-in-U64.ensures
    ∙ ap ends_of (sym (facets-seen [] unsigned_cell c.in-U64.column.shape (num_values_of c.in-U64.column.values) counted types.u64)))

pub returns-in-IpAddr : goal.returns-in-IpAddr
returns-in-IpAddr c =
    let d = columns.IpAddr c.in-IpAddr.column in
    let counted = subst (λ x. IsCounted (dynamic_shape x) (value_count x)) c.in-IpAddr.is c.values_are_counted.ensures in
    ends-of c.address_ends.result c.args.column.now d c.in-IpAddr.is
    (c.address_ends.ensures
    ∙ ap (λ v. ends_of (map (λ x. facet_cell types.ip (unsigned_cell x)) (ip_values_of v))) c.values-in-IpAddr.ensures
    ∙ ap ends_of (sym (facets-seen [] unsigned_cell c.in-IpAddr.column.shape (ip_values_of c.in-IpAddr.column.values) counted types.ip)))

pub returns-in-DateTime : goal.returns-in-DateTime
returns-in-DateTime c =
    let d = columns.DateTime c.in-DateTime.column in
    let counted = subst (λ x. IsCounted (dynamic_shape x) (value_count x)) c.in-DateTime.is c.values_are_counted.ensures in
    ends-of c.number_ends-in-DateTime.result c.args.column.now d c.in-DateTime.is
    (c.number_ends-in-DateTime.ensures
    ∙ ap (λ v. ends_of (map (λ x. facet_cell types.datetime (number x)) (num_values_of v))) c.values-in-DateTime.ensures
    ∙ ap ends_of (sym (facets-seen [] number c.in-DateTime.column.shape (num_values_of c.in-DateTime.column.values) counted types.datetime)))

pub returns-in-Bytes : goal.returns-in-Bytes
returns-in-Bytes c =
    let d = columns.Bytes c.in-Bytes.column in
    let counted = subst (λ x. IsCounted (dynamic_shape x) (value_count x)) c.in-Bytes.is c.values_are_counted.ensures in
    ends-of-terms c.term_ends.result types.bytes c.args.column.now d c.in-Bytes.column c.in-Bytes.column c.in-Bytes.is
    refl refl refl counted c.term_ends.ensures

pub returns-in-Str : goal.returns-in-Str
returns-in-Str c =
    let d = columns.Str c.in-Str.column in
    let counted = subst (λ x. IsCounted (dynamic_shape x) (value_count x)) c.in-Str.is c.values_are_counted.ensures in
    ends-of-terms c.term_ends-in-Str.result types.str c.args.column.now d c.in-Str.column c.bytes_column.result.now c.in-Str.is
    refl refl c.bytes_column.ensures counted c.term_ends-in-Str.ensures
