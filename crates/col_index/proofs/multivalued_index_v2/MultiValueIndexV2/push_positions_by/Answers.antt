use Rattle.std.proofs.Common.{rules, ◌≡◌, ◌-◌, ◌++◌, get_or, Some, None, ap, ◌∙◌}
use Rattle.col_common.specs.Reading.{only_if}
use Rattle.col_model.specs.Index.{offset_counts, multivalued_shape}
use Rattle.col_model.specs.Positions.{rank, values_in}
use Rattle.col_model.proofs.ItemLaws.{only_if-some, only_if-none}
use Rattle.col_index.specs.Offsets.{AreOffsets, found_rows, positions_of, run}
use Rattle.col_index.specs.Sets.{holds}
use Rattle.col_index.proofs.PushLemmas.{pushes-stopped_later, visited, visited-free, visited-none}
use Rattle.col_index.proofs.ValueLemmas.{values-free, values-held, held-inside}
use Rattle.col_index.proofs.multivalued_index_v2.MultiValueIndexV2.push_positions_by.Goals as goal

pub loop-doc-init : goal.loop-doc-init
loop-doc-init g c = record {
  place = c.first_place-place.ensures;
  docs = visited-none (λ p. p.0) (offset_counts c.args.self.now) c.args.docs_out.now.items;
  rows = visited-none (λ p. p.1) (offset_counts c.args.self.now) c.args.rows_out.now.items;
}

pub loop-doc-preserved-in_default : goal.loop-doc-preserved-in_default
loop-doc-preserved-in_default g c =
    let o = c.args.self.now in
    let a : AreOffsets o = search rules in
    let doc = get_or c.args.docs.now c.loop-doc.doc-index 0 in
    let told : None ≡ only_if (holds o.set.rows doc) (rank o.set.rows doc) =
    c.in_default.ensures.rank ∙ ap (λ rows. only_if (holds rows doc) (rank rows doc)) c.requires in
    let none = values-free o a doc (only_if-none (holds o.set.rows doc) (rank o.set.rows doc) told) in
    record {
      place = c.rank_near.ensures.place;
      docs =
          visited-free (λ p. p.0) (offset_counts o) c.args.docs.now _ _ c.loop-doc.doc-index c.loop-doc-test.true
          none c.loop-doc.invariant.docs;
      rows =
          visited-free (λ p. p.1) (offset_counts o) c.args.docs.now _ _ c.loop-doc.doc-index c.loop-doc-test.true
          none c.loop-doc.invariant.rows;
    }

pub range_at-positions-requires : goal.range_at-positions-requires
range_at-positions-requires g c =
    let o = c.args.self.now in
    let a : AreOffsets o = search rules in
    let doc = get_or c.args.docs.now c.loop-doc.doc-index 0 in
    let told : Some c.in-Some.rank ≡ only_if (holds o.set.rows doc) (rank o.set.rows doc) =
    c.in-Some.ensures.rank ∙ ap (λ rows. only_if (holds rows doc) (rank rows doc)) c.requires in
    let held = only_if-some (holds o.set.rows doc) c.in-Some.rank (rank o.set.rows doc) told in
    held-inside o a doc c.in-Some.rank held.1 held.0

pub returns-in_err-push_run : goal.returns-in_err-push_run
returns-in_err-push_run g c =
    pushes-stopped_later _ _ _ c.from_residual.ensures.1 c.loop-doc.invariant.docs c.loop-doc.invariant.rows c.in_err-push_run.ensures.err

pub loop-doc-preserved : goal.loop-doc-preserved
loop-doc-preserved g c =
    let o = c.args.self.now in
    let a : AreOffsets o = search rules in
    let doc = get_or c.args.docs.now c.loop-doc.doc-index 0 in
    let told : Some c.in-Some.rank ≡ only_if (holds o.set.rows doc) (rank o.set.rows doc) =
    c.in-Some.ensures.rank ∙ ap (λ rows. only_if (holds rows doc) (rank rows doc)) c.requires in
    let held = only_if-some (holds o.set.rows doc) c.in-Some.rank (rank o.set.rows doc) told in
    let range = c.range_at-positions.result in
    let values : run doc range.start (range.«end» - range.start) ≡ values_in (multivalued_shape (offset_counts o))
    doc = values-held o a doc c.in-Some.rank range.start range.«end» held.1 held.0
    c.range_at-positions.ensures.start c.range_at-positions.ensures.«end» in
    record {
      place = c.rank_near.ensures.place;
      docs =
          visited (λ p. p.0) (offset_counts o) c.args.docs.now _ _ _ c.loop-doc.doc-index c.loop-doc-test.true
          c.loop-doc.invariant.docs
          (c.in_ok-push_run.ensures.docs ∙ ap (λ vs. c.loop-doc.docs_out.items ++ found_rows vs) values);
      rows =
          visited (λ p. p.1) (offset_counts o) c.args.docs.now _ _ _ c.loop-doc.doc-index c.loop-doc-test.true
          c.loop-doc.invariant.rows
          (c.in_ok-push_run.ensures.rows ∙ ap (λ vs. c.loop-doc.rows_out.items ++ positions_of vs) values);
    }
