use Rattle.std.proofs.Common.{◌-◌, ap, ◌∙◌, arith}
use Rattle.col_indexer.specs.Builders.{RecordedRows, with_value}
use Rattle.col_indexer.proofs.BuilderLemmas.{room-shown, value-fits, value-recorded, last-read}
use Rattle.col_indexer.proofs.value_index.MultivaluedIndexBuilderIndexBuilder.record_value.Goals as goal

pub overflow_add-index_mut : goal.overflow_add-index_mut
overflow_add-index_mut c =
    let offsets = c.self.inside.start_offsets.items in
    let room = room-shown _ offsets _ c.self.view_is c.requires.0 c.requires.1 in
    let place = ap (λ n. n - 1) (c.len-last.ensures ∙ c.self.inside.start_offsets.ok.0) in
    omega (
      arith,
      last-read _ offsets _ _ c.self.invariant room.some place c.index_mut.ensures.value,
      value-fits _ offsets _ c.self.invariant room.some place room.few,
    )

pub invariant_of-self : goal.invariant_of-self
invariant_of-self c =
    let offsets = c.self.inside.start_offsets.items in
    let room = room-shown _ offsets _ c.self.view_is c.requires.0 c.requires.1 in
    let place = ap (λ n. n - 1) (c.len-last.ensures ∙ c.self.inside.start_offsets.ok.0) in
    (value-recorded _ offsets _ _ c.self.invariant room.some place
    (last-read _ offsets _ _ c.self.invariant room.some place c.index_mut.ensures.value) room.few).recording

pub returns-clause-ok : goal.returns-clause-ok
returns-clause-ok c =
    let offsets = c.self.inside.start_offsets.items in
    let room = room-shown _ offsets _ c.self.view_is c.requires.0 c.requires.1 in
    let place = ap (λ n. n - 1) (c.len-last.ensures ∙ c.self.inside.start_offsets.ok.0) in
    let counts = (value-recorded _ offsets _ _ c.self.invariant room.some place
    (last-read _ offsets _ _ c.self.invariant room.some place c.index_mut.ensures.value) room.few).counts in
    ap (λ cs. record { rows = c.self.inside.doc_with_values.items; counts = cs }) counts
    ∙ ap (λ (r : RecordedRows). record { rows = r.rows; counts = with_value r.counts }) c.self.view_is
