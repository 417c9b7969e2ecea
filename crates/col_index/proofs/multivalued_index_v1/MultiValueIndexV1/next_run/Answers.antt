use Rattle.std.proofs.Common.{◌≤◌, ◌<◌, ◌+◌, length, slice_get, refl, sym, ap, ◌∙◌, arith}
use Rattle.col_common.specs.Ascending.{differences}
use Rattle.col_model.specs.Positions.{rows_with_value, starts_of}
use Rattle.col_index.proofs.OldRowLemmas.{old-start, run-free, found-row, found-end, run-row_past, run-end_past}
use Rattle.col_index.proofs.multivalued_index_v1.MultiValueIndexV1.next_run.Goals as goal

pub loop-doc_id-init : goal.loop-doc_id-init
loop-doc_id-init c = record {
  ranked = refl;
  level = λ h. sym (old-start c.args.self.now c.offsets_never_fall.ensures c.args.from h) ∙ sym c.start_of-start.ensures;
}

pub returns-then-end-start-clause-row : goal.returns-then-end-start-clause-row
returns-then-end-start-clause-row c =
    found-row c.args.self.now c.offsets_never_fall.ensures c.args.from c.loop-doc_id.doc_id _ _ (omega arith)
    c.loop-doc_id.invariant.ranked c.loop-doc_id.invariant.level c.offset_at-end.ensures c.if-end-start.true

pub returns-then-end-start-clause-end : goal.returns-then-end-start-clause-end
returns-then-end-start-clause-end c =
    found-end c.args.self.now c.offsets_never_fall.ensures c.args.from c.loop-doc_id.doc_id _ _ (omega arith)
    c.loop-doc_id.invariant.ranked c.loop-doc_id.invariant.level c.offset_at-end.ensures c.if-end-start.true

pub loop-doc_id-preserved : goal.loop-doc_id-preserved
loop-doc_id-preserved c =
    let xs = c.args.self.now in
    let old = c.offsets_never_fall.ensures in
    let inside : c.loop-doc_id.doc_id < length (differences xs) = omega arith in
    let next = sym c.offset_at-end.ensures ∙ c.if-end-start.false in
    record {
      ranked =
          run-free xs old c.loop-doc_id.doc_id inside (next ∙ sym (c.loop-doc_id.invariant.level (omega arith)))
          ∙ c.loop-doc_id.invariant.ranked;
      level = λ h. next;
    }

pub returns-clause-row : goal.returns-clause-row
returns-clause-row c =
    let xs = c.args.self.now in
    let past : length (differences xs) ≤ c.loop-doc_id.doc_id = omega arith in
    sym (ap (slice_get (rows_with_value (differences xs))) (sym c.loop-doc_id.invariant.ranked)
    ∙ run-row_past xs c.offsets_never_fall.ensures c.loop-doc_id.doc_id past)

pub returns-clause-end : goal.returns-clause-end
returns-clause-end c =
    let xs = c.args.self.now in
    let past : length (differences xs) ≤ c.loop-doc_id.doc_id = omega arith in
    sym (ap (λ k. slice_get (starts_of (differences xs)) (k + 1)) (sym c.loop-doc_id.invariant.ranked)
    ∙ run-end_past xs c.offsets_never_fall.ensures c.loop-doc_id.doc_id past)
