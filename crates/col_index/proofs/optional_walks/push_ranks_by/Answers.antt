use Rattle.std.proofs.Common.{get_or}
use Rattle.col_model.specs.Positions.{rank}
use Rattle.col_model.proofs.ItemLaws.{only_if-some}
use Rattle.col_index.specs.Sets.{holds}
use Rattle.col_index.proofs.PushLemmas.{pushes-stopped_later, held-pushed, rank-pushed}
use Rattle.col_index.proofs.optional_walks.push_ranks_by.Goals as goal

pub returns-in_err-push_pair : goal.returns-in_err-push_pair
returns-in_err-push_pair g c =
    pushes-stopped_later _ _ _ c.from_residual.ensures.1 c.loop-doc.invariant.docs c.loop-doc.invariant.rows c.in_err-push_pair.ensures.err

pub loop-doc-preserved : goal.loop-doc-preserved
loop-doc-preserved g c =
    let xs = g.R.RankNear.rows c.args.rows.now in
    let docs = c.args.docs.now in
    let at = c.loop-doc.doc-index in
    let told = only_if-some (holds xs (get_or docs at 0)) c.in-Some.rank (rank xs (get_or docs at 0)) c.in-Some.ensures.rank in
    record {
      place = c.rank_near.ensures.place;
      docs = held-pushed xs docs at c.loop-doc-test.true told.0 _ _ _ c.loop-doc.invariant.docs c.in_ok-push_pair.ensures.docs;
      rows =
          rank-pushed xs docs at c.loop-doc-test.true told.0 _ _ _ c.in-Some.rank told.1 c.loop-doc.invariant.rows
          c.in_ok-push_pair.ensures.rows;
    }
