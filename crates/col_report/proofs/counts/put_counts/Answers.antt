use Rattle.std.proofs.Common.{◌∙◌, [], ◌∷◌, map, ap, sym, subst, length}
use Rattle.std.specs.List.{range_with_len}
use Rattle.col_dynamic.specs.Dynamic.{type_of, content_of}
use Rattle.col_model.specs.Facets.{facet_of}
use Rattle.col_program.specs.Report.{list_data, counted_data}
use Rattle.col_types.specs.Kinds.{kind_of}
use Rattle.col_report.specs.Counted.{shown_count}
use Rattle.col_report.specs.Printed.{PutsLines}
use Rattle.col_report.specs.Reported.{facet_line}
use Rattle.col_report.proofs.CountLemmas.{counts-shown}
use Rattle.col_report.proofs.counts.put_counts.Goals as goal

pub returns : goal.returns
returns g c =
    let column = c.args.column.now in
    let kind = kind_of c.args.column_type in
    let docs = range_with_len 0 (length (content_of column).rows) in
    let same = ap (map (shown_count (type_of column))) (c.deref.ensures.value ∙ c.in_ok-facets.ensures.ok) ∙ counts-shown column docs in
    let shown = ap (λ t. map (shown_count t) c.deref.result.now) (sym c.requires) ∙ same
    ∙ ap (λ t. map (counted_data t) (facet_of (content_of column) docs)) c.requires in
    subst (λ ds. PutsLines (g.O.Out.seen c.args.out.now) (g.O.Out.seen c.put_facets.new.out)
    (facet_line c.args.name.now kind (list_data ds) ∷ [])) shown c.put_facets.ensures
