use Rattle.std.proofs.Common.{rules, ◌≡◌, Some, None}
use Rattle.col_common.specs.Reading.{only_if}
use Rattle.col_model.specs.Positions.{rank}
use Rattle.col_model.proofs.ItemLaws.{only_if-some, only_if-none}
use Rattle.col_index.specs.Offsets.{AreOffsets}
use Rattle.col_index.specs.Sets.{holds}
use Rattle.col_index.proofs.IfAnyLemmas.{some_free-start, some_free-end, some_held-start, some_held-end}
use Rattle.col_index.proofs.ValueLemmas.{held-inside}
use Rattle.col_index.proofs.multivalued_index_v2.MultiValueIndexV2.range_if_any.Goals as goal

pub range_at-requires : goal.range_at-requires
range_at-requires c =
    let o = c.args.self.now in
    let a : AreOffsets o = search rules in
    let told : Some c.in-Some.rank ≡ only_if (holds o.set.rows c.args.doc_id) (rank o.set.rows c.args.doc_id) = search rules in
    let held = only_if-some (holds o.set.rows c.args.doc_id) c.in-Some.rank (rank o.set.rows c.args.doc_id) told in
    held-inside o a c.args.doc_id c.in-Some.rank held.1 held.0

pub returns-in-Some-clause-start : goal.returns-in-Some-clause-start
returns-in-Some-clause-start c =
    let o = c.args.self.now in
    let a : AreOffsets o = search rules in
    let told : Some c.in-Some.rank ≡ only_if (holds o.set.rows c.args.doc_id) (rank o.set.rows c.args.doc_id) = search rules in
    let held = only_if-some (holds o.set.rows c.args.doc_id) c.in-Some.rank (rank o.set.rows c.args.doc_id) told in
    some_held-start o a c.args.doc_id c.in-Some.rank c.range_at.result.start held.1 held.0 c.range_at.ensures.start

pub returns-in-Some-clause-end : goal.returns-in-Some-clause-end
returns-in-Some-clause-end c =
    let o = c.args.self.now in
    let a : AreOffsets o = search rules in
    let told : Some c.in-Some.rank ≡ only_if (holds o.set.rows c.args.doc_id) (rank o.set.rows c.args.doc_id) = search rules in
    let held = only_if-some (holds o.set.rows c.args.doc_id) c.in-Some.rank (rank o.set.rows c.args.doc_id) told in
    some_held-end o a c.args.doc_id c.in-Some.rank c.range_at.result.«end» held.1 held.0 c.range_at.ensures.«end»

pub returns-in-None-clause-start : goal.returns-in-None-clause-start
returns-in-None-clause-start c =
    let o = c.args.self.now in
    let a : AreOffsets o = search rules in
    let told : None ≡ only_if (holds o.set.rows c.args.doc_id) (rank o.set.rows c.args.doc_id) = search rules in
    some_free-start o a c.args.doc_id (only_if-none (holds o.set.rows c.args.doc_id) (rank o.set.rows c.args.doc_id) told)

pub returns-in-None-clause-end : goal.returns-in-None-clause-end
returns-in-None-clause-end c =
    let o = c.args.self.now in
    let a : AreOffsets o = search rules in
    let told : None ≡ only_if (holds o.set.rows c.args.doc_id) (rank o.set.rows c.args.doc_id) = search rules in
    some_free-end o a c.args.doc_id (only_if-none (holds o.set.rows c.args.doc_id) (rank o.set.rows c.args.doc_id) told)
