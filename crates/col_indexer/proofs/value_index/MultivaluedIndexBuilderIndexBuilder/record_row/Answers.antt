use Rattle.std.proofs.Common.{◌≡◌, ◌-◌, ◌++◌, ◌∷◌, ◌==◌, [], ap, sym, ◌∙◌, subst}
use Rattle.col_common.specs.Ascending.{differences}
use Rattle.col_indexer.specs.Builders.{RecordedRows, IsAfter, IsRecording}
use Rattle.col_indexer.proofs.BuilderLemmas.{begun, begun-empty, begun-some, begun-read, row-recorded, row-shown}
use Rattle.col_indexer.proofs.value_index.MultivaluedIndexBuilderIndexBuilder.record_row.Goals as goal
use Rattle.col_indexer.proofs.value_index.MultivaluedIndexBuilderIndexBuilder.record_row.Goals.{then-is_empty+in_ok-push, else-is_empty}

base_begun : (c : goal.In_ok-push-3) → c.if-is_empty.self-inside.start_offsets.items ≡ begun c.self.inside.start_offsets.items
base_begun c =
    let long = ap (λ n. n == 0) c.reserve-2.new.self.ok.0 in
    elim c.if-is_empty.branch [
      | then-is_empty+in_ok-push w ↦ begun-empty _ _ _ c.in_ok-reserve-2.ensures.items (w.if-is_empty.ensures ∙ long)
          (ap (λ i. i.start_offsets.items) w.self-inside-is ∙ w.in_ok-push.ensures.items)
      | else-is_empty w ↦ begun-some _ _ _ c.in_ok-reserve-2.ensures.items (w.if-is_empty.ensures ∙ long)
          (ap (λ i. i.start_offsets.items) w.self-inside-is)
    ]

rows_kept : (c : goal.In_ok-push-3) → c.if-is_empty.self-inside.doc_with_values.items ≡ c.self.inside.doc_with_values.items
rows_kept c =
    elim c.if-is_empty.branch [
      | then-is_empty+in_ok-push w ↦ ap (λ i. i.doc_with_values.items) w.self-inside-is ∙ c.in_ok-reserve.ensures.items
      | else-is_empty w ↦ ap (λ i. i.doc_with_values.items) w.self-inside-is ∙ c.in_ok-reserve.ensures.items
    ]

recorded : (c : goal.In_ok-push-3)
    → IsRecording (c.self.inside.doc_with_values.items ++ c.args.doc ∷ []) c.push-2.new.self.items
    × (differences c.push-2.new.self.items ≡ differences c.self.inside.start_offsets.items ++ 0 ∷ [])
recorded c =
    let rows = c.self.inside.doc_with_values.items in
    let offsets = c.self.inside.start_offsets.items in
    let begins = base_begun c in
    let after : IsAfter rows c.args.doc = subst (λ (r : RecordedRows). IsAfter r.rows c.args.doc) (sym c.self.view_is) c.requires.0 in
    let place = ap (λ n. n - 1) (c.len.ensures ∙ c.if-is_empty.self-inside.start_offsets.ok.0) in
    let both = row-recorded rows offsets _ c.args.doc _ c.self.invariant begins after
    (begun-read offsets _ _ _ begins place c.index-start.ensures) in
    subst (λ xs. IsRecording (rows ++ c.args.doc ∷ []) xs × (differences xs ≡ differences offsets ++ 0 ∷ []))
    (sym c.in_ok-push-2.ensures.items) both

pub invariant_of-self-2 : goal.invariant_of-self-2
invariant_of-self-2 c =
    subst (λ rs. IsRecording rs c.push-2.new.self.items)
    (sym (c.in_ok-push-3.ensures.items ∙ ap (λ rs. rs ++ c.args.doc ∷ []) (rows_kept c))) (recorded c).0

pub returns-clause-ok : goal.returns-clause-ok
returns-clause-ok c =
    row-shown _ _ _ _ _ _ (c.in_ok-push-3.ensures.items ∙ ap (λ rs. rs ++ c.args.doc ∷ []) (rows_kept c))
    (recorded c).1 c.self.view_is
