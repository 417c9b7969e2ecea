use Rattle.std.proofs.Common.{rules, ◌≡◌, Some, None, arith}
use Rattle.col_common.specs.Reading.{only_if}
use Rattle.col_model.specs.Positions.{rank}
use Rattle.col_model.proofs.ItemLaws.{only_if-some, only_if-none}
use Rattle.col_index.specs.Sets.{holds}
use Rattle.col_index.proofs.RankLaws.{rows_rise}
use Rattle.col_index.proofs.HeldLaws.{holds-rank}
use Rattle.col_index.proofs.IfAnyLemmas.{one_free-start, one_free-end, one_held-start, one_held-end}
use Rattle.col_index.proofs.SetLemmas.{few_rows}
use Rattle.col_index.proofs.optional_index.OptionalIndex.range_if_any.Goals as goal

pub overflow_add-result : goal.overflow_add-result
overflow_add-result c =
    let s = c.args.self.now in
    let own = c.rows_rise.ensures in
    let told : Some c.in-Some.rank ≡ only_if (holds s.rows c.args.doc_id) (rank s.rows c.args.doc_id) = search rules in
    let held = only_if-some (holds s.rows c.args.doc_id) c.in-Some.rank (rank s.rows c.args.doc_id) told in
    let few = few_rows s.num_rows s.rows own in
    let inside = (holds-rank s.rows c.args.doc_id (rows_rise s own) held.0).0 in
    omega (arith, inside, held.1, few, c.num_docs-num_docs.ensures, c.num_docs-num_docs.type_inv)

pub returns-in-Some-clause-start : goal.returns-in-Some-clause-start
returns-in-Some-clause-start c =
    let s = c.args.self.now in
    let own = c.rows_rise.ensures in
    let told : Some c.in-Some.rank ≡ only_if (holds s.rows c.args.doc_id) (rank s.rows c.args.doc_id) = search rules in
    let held = only_if-some (holds s.rows c.args.doc_id) c.in-Some.rank (rank s.rows c.args.doc_id) told in
    one_held-start s own c.args.doc_id c.in-Some.rank held.1 held.0

pub returns-in-Some-clause-end : goal.returns-in-Some-clause-end
returns-in-Some-clause-end c =
    let s = c.args.self.now in
    let own = c.rows_rise.ensures in
    let told : Some c.in-Some.rank ≡ only_if (holds s.rows c.args.doc_id) (rank s.rows c.args.doc_id) = search rules in
    let held = only_if-some (holds s.rows c.args.doc_id) c.in-Some.rank (rank s.rows c.args.doc_id) told in
    one_held-end s own c.args.doc_id c.in-Some.rank held.1 held.0

pub returns-in-None-clause-start : goal.returns-in-None-clause-start
returns-in-None-clause-start c =
    let s = c.args.self.now in
    let own = c.rows_rise.ensures in
    let told : None ≡ only_if (holds s.rows c.args.doc_id) (rank s.rows c.args.doc_id) = search rules in
    one_free-start s own c.args.doc_id (only_if-none (holds s.rows c.args.doc_id) (rank s.rows c.args.doc_id) told)

pub returns-in-None-clause-end : goal.returns-in-None-clause-end
returns-in-None-clause-end c =
    let s = c.args.self.now in
    let own = c.rows_rise.ensures in
    let told : None ≡ only_if (holds s.rows c.args.doc_id) (rank s.rows c.args.doc_id) = search rules in
    one_free-end s own c.args.doc_id (only_if-none (holds s.rows c.args.doc_id) (rank s.rows c.args.doc_id) told)
