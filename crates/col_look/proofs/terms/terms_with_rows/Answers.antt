-- The marks that are set are those of the terms that some row has.
use Rattle.std.proofs.Common.{◌≡◌, ℕ, ◌==◌, length, drop, ◌∙◌, ap, arith}
use Rattle.std.specs.List.{count_by, list_any}
use Rattle.std.proofs.lemmas.List.{take_at}
use Rattle.col_column.specs.Columns.{Seen}
use Rattle.col_numbers.specs.NumValues.{num_values_of}
use Rattle.col_numbers.specs.declared.num_values.NumValues.{NumValues}
use Rattle.col_look.proofs.terms.terms_with_rows.Goals as goal
use Rattle.col_look.proofs.TermLemmas.{marks-facets}

pub returns : goal.returns
returns c =
    let texts = c.args.column.now in
    let told = c.ordinals_are_told.ensures.ordinals in
    let same = ap num_values_of c.values.ensures ∙ ap (λ (o : Seen (NumValues ℕ)). num_values_of o.values) c.ords.ensures in
    let marks = c.mark_all.new.marks in
    let back = take_at marks (drop (length marks) c.in_ok-marks.marks.items) c.in_ok-marks.marks.len
    (c.mark_all.auto.marks ∙ c.as_mut_slice.ensures.len) in
    let size : length marks ≡ length texts.terms =
    omega (arith, c.mark_all.auto.marks, c.as_mut_slice.ensures.len, c.in_ok-marks.ensures.len, c.num_terms.ensures) in
    c.count_marks.ensures ∙ ap (count_by (λ mark. mark)) (c.as_slice.ensures.value ∙ back)
    ∙ marks-facets texts.terms (num_values_of texts.ords.values) marks told.ascend told.below size
    (λ i l. c.in_ok-mark_all.ensures i ∙ ap (list_any (λ n. n == i)) same)
