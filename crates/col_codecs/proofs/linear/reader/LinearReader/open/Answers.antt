use Rattle.std.proofs.Common.{Some, sym, ap, subst, ◌∙◌}
use Rattle.std.proofs.lemmas.Result.{err_from_is_err_and}
use Rattle.col_common.specs.Decoding.{Refuses}
use Rattle.col_model.specs.Items.{linear_item, linear_items}
use Rattle.col_model.proofs.ItemLaws.{only_if-some}
use Rattle.col_codecs.specs.BlockBounds.{Enclose}
use Rattle.col_codecs.specs.ColumnStats.{stats_seen}
use Rattle.col_codecs.specs.Line.{with_width}
use Rattle.col_codecs.specs.LinearParams.{params_seen}
use Rattle.col_codecs.proofs.LinearReaderLemmas.{is_list, list_by-no_line, list_by-cut, exact-stats}
use Rattle.col_codecs.proofs.linear.reader.LinearReader.open.Goals as goal

pub returns-in_default : goal.returns-in_default
returns-in_default c = list_by-no_line (stats_seen c.args.stats) c.args.bytes (sym c.in_default.ensures.value)

pub returns-in_err-bounds : goal.returns-in_err-bounds
returns-in_err-bounds c =
    let p = err_from_is_err_and c.from_residual.result c.from_residual.ensures.1 in
    rw (p.1, p.2) (subst (Refuses c.in_err-bounds.field-0.0)
    (sym (list_by-cut (stats_seen c.args.stats) c.args.bytes c.in-Some.data c.as_slice.result.now
    (params_seen c.in-Some.params) (sym c.in-Some.ensures.value) c.as_slice.ensures))
    c.in_err-bounds.ensures.list)

pub invariant_of-result : goal.invariant_of-result
invariant_of-result c =
    let s = stats_seen c.args.stats in
    let l = params_seen c.in-Some.params in
    let bytes = c.in-Some.data in
    let read = c.as_slice.result.now in
    let w = c.new.result in
    let items = linear_items l read s.count in (
      exact-stats s l bytes read w c.as_slice.ensures c.new.ensures
          (only_if-some (is_list s l read) items items (sym c.in_ok-bounds.ensures.list)).0,
      subst (λ b. Enclose c.in_ok-bounds.bounds.items (linear_item (with_width c.in-Some.params.line w) b) s.count) c.as_slice.ensures
          (subst (λ v. Enclose c.in_ok-bounds.bounds.items (linear_item (with_width c.in-Some.params.line v) read)
          s.count) (sym c.new.ensures) c.in_ok-bounds.ensures.bounds),
    )

pub returns : goal.returns
returns c =
    let s = stats_seen c.args.stats in
    let l = params_seen c.in-Some.params in
    list_by-cut s c.args.bytes c.in-Some.data c.as_slice.result.now l (sym c.in-Some.ensures.value) c.as_slice.ensures
    ∙ c.in_ok-bounds.ensures.list
    ∙ ap (λ b. Some (linear_items l b s.count)) c.as_slice.ensures
    ∙ ap (λ w. Some (linear_items (with_width c.in-Some.params.line w) c.in-Some.data s.count)) (sym c.new.ensures)
