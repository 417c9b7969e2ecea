use Rattle.std.proofs.Common.{◌≡◌, ◌-◌, ◌++◌, get_or, ap, ◌∙◌}
use Rattle.col_common.specs.Ascending.{differences}
use Rattle.col_model.specs.Index.{multivalued_shape}
use Rattle.col_model.specs.Positions.{values_in}
use Rattle.col_index.specs.Offsets.{found_rows, positions_of, run}
use Rattle.col_index.proofs.PushLemmas.{pushes-stopped_later, visited, visited-none}
use Rattle.col_index.proofs.RangeLaws.{range-values}
use Rattle.col_index.proofs.multivalued_index_v1.MultiValueIndexV1.push_positions.Goals as goal

pub loop-doc-init : goal.loop-doc-init
loop-doc-init c = record {
  docs = visited-none (λ p. p.0) (differences c.args.self.now) c.args.docs_out.now.items;
  rows = visited-none (λ p. p.1) (differences c.args.self.now) c.args.rows_out.now.items;
}

pub returns-in_err-push_run : goal.returns-in_err-push_run
returns-in_err-push_run c =
    pushes-stopped_later _ _ _ c.from_residual.ensures.1 c.loop-doc.invariant.docs c.loop-doc.invariant.rows c.in_err-push_run.ensures.err

pub loop-doc-preserved : goal.loop-doc-preserved
loop-doc-preserved c =
    let cs = differences c.args.self.now in
    let doc = get_or c.args.docs.now c.loop-doc.doc-index 0 in
    let range = c.range-positions.result in
    let values : run doc range.start (range.«end» - range.start) ≡ values_in (multivalued_shape cs) doc =
    range-values cs doc range.start range.«end»
    (record { first = c.range-positions.ensures.start; last = c.range-positions.ensures.«end» }) in
    record {
      docs =
          visited (λ p. p.0) cs c.args.docs.now _ _ _ c.loop-doc.doc-index c.loop-doc-test.true c.loop-doc.invariant.docs
          (c.in_ok-push_run.ensures.docs ∙ ap (λ ps. c.loop-doc.docs_out.items ++ found_rows ps) values);
      rows =
          visited (λ p. p.1) cs c.args.docs.now _ _ _ c.loop-doc.doc-index c.loop-doc-test.true c.loop-doc.invariant.rows
          (c.in_ok-push_run.ensures.rows ∙ ap (λ ps. c.loop-doc.rows_out.items ++ positions_of ps) values);
    }
