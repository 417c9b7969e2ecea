use Rattle.std.proofs.Common.{◌/◌, ◌+◌, ◌^◌, ◌≤◌, ap, subst, ◌∙◌, arith}
use Rattle.std.proofs.lemmas.Nat.{pow_pos}
use Rattle.std.proofs.lemmas.List.{get_or_read}
use Rattle.col_model.specs.Index.{RowSet}
use Rattle.col_numbers.specs.Readers.{list_of}
use Rattle.col_index.specs.Search.{IsNarrowed}
use Rattle.col_index.proofs.PartLemmas.{part-followed}
use Rattle.col_index.proofs.RankLaws.{rows_rise}
use Rattle.col_index.proofs.StartCountLemmas.{part_upto}
use Rattle.col_index.proofs.run_starts.RunStarts.part_of.Goals as goal

pub index-requires : goal.index-requires
index-requires c =
    let s = c.self.inside in
    let below : c.args.row_id ≤ s.num_rows = omega (arith, c.requires, ap (λ (r : RowSet). r.num_rows) c.self.view_is) in
    let followed = part-followed (list_of s.rows) s.before.items s.num_rows s.shift c.args.row_id c.self.invariant.parts below in
    omega (arith, followed)

pub index-requires-2 : goal.index-requires-2
index-requires-2 c =
    let s = c.self.inside in
    let below : c.args.row_id ≤ s.num_rows = omega (arith, c.requires, ap (λ (r : RowSet). r.num_rows) c.self.view_is) in
    let followed = part-followed (list_of s.rows) s.before.items s.num_rows s.shift c.args.row_id c.self.invariant.parts below in
    omega (arith, followed)

pub returns : goal.returns
returns c =
    let s = c.self.inside in
    let own : RowSet = record { num_rows = s.num_rows; rows = list_of s.rows } in
    let before = s.before.items in
    let part = c.args.row_id / 2 ^ s.shift in
    let parts = c.self.invariant.parts in
    let below : c.args.row_id ≤ s.num_rows = omega (arith, c.requires, ap (λ (r : RowSet). r.num_rows) c.self.view_is) in
    let followed = part-followed own.rows before s.num_rows s.shift c.args.row_id parts below in
    let start = get_or_read before part c.index.result.now (omega (arith, followed)) c.index.ensures 0
    ∙ parts.counts.each part (omega (arith, followed)) in
    let end = get_or_read before (part + 1) c.index-2.result.now followed c.index-2.ensures 0
    ∙ parts.counts.each (part + 1) followed in
    subst (λ (r : RowSet). IsNarrowed r.rows (c.args.row_id + 1) c.index.result.now c.index-2.result.now) c.self.view_is
    (part_upto own.rows (2 ^ s.shift) c.args.row_id c.index.result.now c.index-2.result.now (pow_pos s.shift)
    (rows_rise own c.self.invariant.rows) start end)
