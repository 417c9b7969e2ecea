use Rattle.std.proofs.Common.{◌+◌, sym, ap, subst, ◌∙◌, arith}
use Rattle.col_model.specs.Index.{RowSet}
use Rattle.col_model.specs.Positions.{rank}
use Rattle.col_numbers.specs.Readers.{list_of}
use Rattle.col_index.specs.Search.{IsNarrowed}
use Rattle.col_index.proofs.SetLemmas.{few_rows}
use Rattle.col_index.proofs.StartCountLemmas.{read_within, read_done}
use Rattle.col_index.proofs.run_starts.RunStarts.count_among.Goals as goal

pub overflow_cast-result : goal.overflow_cast-result
overflow_cast-result c =
    let s = c.self.inside in
    let count = ap (λ (r : RowSet). r.num_rows) c.self.view_is in
    let own : RowSet = record { num_rows = s.num_rows; rows = list_of s.rows } in
    let part = c.part_of-low in
    let narrowed = subst (λ (r : RowSet). IsNarrowed r.rows (c.args.row_id + 1) part.result.start part.result.end)
    (sym c.self.view_is) part.ensures in
    let within =
    read_within own s.nexts.items s.shift s.before.items c.self.invariant c.args.row_id part.result.start part.result.end
    c.index.result.now c.from.result c.requires.small narrowed c.index.ensures c.from.ensures in
    omega (
      arith,
      within,
      few_rows own.num_rows own.rows c.self.invariant.rows,
      c.num_docs-count.ensures,
      c.num_docs-count.type_inv,
      count,
    )

pub returns : goal.returns
returns c =
    let s = c.self.inside in
    let part = c.part_of-low in
    let narrowed = subst (λ (r : RowSet). IsNarrowed r.rows (c.args.row_id + 1) part.result.start part.result.end)
    (sym c.self.view_is) part.ensures in
    let count = ap (λ (r : RowSet). r.num_rows) c.self.view_is in
    read_done (record { num_rows = s.num_rows; rows = list_of s.rows }) s.nexts.items s.shift s.before.items c.self.invariant
    c.args.row_id part.result.start part.result.end c.index.result.now c.from.result
    c.requires.small narrowed
    c.index.ensures c.from.ensures c.index-2.result.now c.index-2.ensures c.if-index-row_id.false
    ∙ ap (λ (r : RowSet). rank r.rows (c.args.row_id + 1)) c.self.view_is
