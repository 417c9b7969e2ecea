use Rattle.std.proofs.Common.{◌<◌, ◌^◌, length, sym, ap, ◌∙◌, subst}
use Rattle.col_common.specs.Ascending.{differences}
use Rattle.col_model.specs.Index.{offset_counts}
use Rattle.col_index.specs.Offsets.{AreOffsets}
use Rattle.col_index.specs.Sets.{AreRows}
use Rattle.col_index.proofs.IndexedLaws.{counts-are_rows, counts-are_offset_counts}
use Rattle.col_index.proofs.OldStartLemmas.{appended-to-none, old-are_offsets, old-few, old-set, old-whole}
use Rattle.col_index.proofs.multivalued_index_v2.MultiValueIndexV2.for_test.Goals as goal

pub for_test-requires : goal.for_test-requires
for_test-requires c =
    let offsets = c.args.start_offsets.now in
    let rows = appended-to-none _ _ _ _ c.deref.ensures.value c.in_ok-push_runs.ensures.rows c.new-rows.ensures.items in
    subst AreRows (sym (old-set offsets c.deref.result.now rows)) (counts-are_rows (differences offsets))

pub load_numbers-requires : goal.load_numbers-requires
load_numbers-requires c =
    let starts = appended-to-none _ _ _ _ c.deref-2.ensures.value c.in_ok-push_runs.ensures.starts c.new-starts.ensures.items in
    subst (λ xs. length xs < 2 ^ 32) (sym starts) (old-few c.args.start_offsets.now c.requires)

pub invariant_of-result : goal.invariant_of-result
invariant_of-result c =
    let rows = appended-to-none _ _ _ _ c.deref.ensures.value c.in_ok-push_runs.ensures.rows c.new-rows.ensures.items in
    let starts = appended-to-none _ _ _ _ c.deref-2.ensures.value c.in_ok-push_runs.ensures.starts c.new-starts.ensures.items in
    let whole = old-whole c.args.start_offsets.now _ _ _ _ rows starts c.in_ok-optional_index.ensures.ok
    c.in_ok-start_index_column.ensures.ok in
    subst AreOffsets (sym whole) (old-are_offsets c.args.start_offsets.now c.requires)

pub returns-clause-ok : goal.returns-clause-ok
returns-clause-ok c =
    let rows = appended-to-none _ _ _ _ c.deref.ensures.value c.in_ok-push_runs.ensures.rows c.new-rows.ensures.items in
    let starts = appended-to-none _ _ _ _ c.deref-2.ensures.value c.in_ok-push_runs.ensures.starts c.new-starts.ensures.items in
    let whole = old-whole c.args.start_offsets.now _ _ _ _ rows starts c.in_ok-optional_index.ensures.ok
    c.in_ok-start_index_column.ensures.ok in
    ap offset_counts whole ∙ counts-are_offset_counts (differences c.args.start_offsets.now)
