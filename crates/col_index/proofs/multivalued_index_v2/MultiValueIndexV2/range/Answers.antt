use Rattle.std.proofs.Common.{rules, ◌≡◌, ◌<◌, ◌≤◌, true, false, sym, ap}
use Rattle.col_model.specs.Positions.{rank}
use Rattle.col_index.specs.Offsets.{AreOffsets}
use Rattle.col_index.specs.Sets.{holds}
use Rattle.col_index.proofs.RangeLemmas.{range-outside, range-start, range-end_free, range-end_held}
use Rattle.col_index.proofs.ValueLemmas.{held-inside}
use Rattle.col_index.proofs.multivalued_index_v2.MultiValueIndexV2.range.Goals as goal

pub returns-then-doc_id-num_docs-clause-start : goal.returns-then-doc_id-num_docs-clause-start
returns-then-doc_id-num_docs-clause-start c =
    let a : AreOffsets c.args.self.now = search rules in
    let h : c.args.self.now.set.num_rows ≤ c.args.doc_id = search rules in
    sym (ap (λ r. r.0) (range-outside c.args.self.now a c.args.doc_id h))

pub returns-then-doc_id-num_docs-clause-end : goal.returns-then-doc_id-num_docs-clause-end
returns-then-doc_id-num_docs-clause-end c =
    let a : AreOffsets c.args.self.now = search rules in
    let h : c.args.self.now.set.num_rows ≤ c.args.doc_id = search rules in
    sym (ap (λ r. r.1) (range-outside c.args.self.now a c.args.doc_id h))

pub range_at-requires : goal.range_at-requires
range_at-requires c =
    let o = c.args.self.now in
    let a : AreOffsets o = search rules in
    let r : c.rank_and_contains-rank.result.0 ≡ rank o.set.rows c.args.doc_id = search rules in
    let held : holds o.set.rows c.args.doc_id ≡ true = search rules in
    held-inside o a c.args.doc_id c.rank_and_contains-rank.result.0 r held

pub returns-then-held-clause-start : goal.returns-then-held-clause-start
returns-then-held-clause-start c =
    let o = c.args.self.now in
    let a : AreOffsets o = search rules in
    let h : c.args.doc_id < o.set.num_rows = search rules in
    let r : c.rank_and_contains-rank.result.0 ≡ rank o.set.rows c.args.doc_id = search rules in
    range-start o a c.args.doc_id h c.rank_and_contains-rank.result.0 c.range_at.result.start r c.range_at.ensures.start

pub returns-then-held-clause-end : goal.returns-then-held-clause-end
returns-then-held-clause-end c =
    let o = c.args.self.now in
    let a : AreOffsets o = search rules in
    let h : c.args.doc_id < o.set.num_rows = search rules in
    let r : c.rank_and_contains-rank.result.0 ≡ rank o.set.rows c.args.doc_id = search rules in
    let held : holds o.set.rows c.args.doc_id ≡ true = search rules in
    range-end_held o a c.args.doc_id h c.rank_and_contains-rank.result.0 c.range_at.result.«end» r held c.range_at.ensures.«end»

pub returns-clause-start : goal.returns-clause-start
returns-clause-start c =
    let o = c.args.self.now in
    let a : AreOffsets o = search rules in
    let h : c.args.doc_id < o.set.num_rows = search rules in
    let r : c.rank_and_contains-rank.result.0 ≡ rank o.set.rows c.args.doc_id = search rules in
    range-start o a c.args.doc_id h c.rank_and_contains-rank.result.0 c.start_at-start.result r c.start_at-start.ensures

pub returns-clause-end : goal.returns-clause-end
returns-clause-end c =
    let o = c.args.self.now in
    let a : AreOffsets o = search rules in
    let h : c.args.doc_id < o.set.num_rows = search rules in
    let r : c.rank_and_contains-rank.result.0 ≡ rank o.set.rows c.args.doc_id = search rules in
    let free : holds o.set.rows c.args.doc_id ≡ false = search rules in
    range-end_free o a c.args.doc_id h c.rank_and_contains-rank.result.0 c.start_at-start.result r free c.start_at-start.ensures
