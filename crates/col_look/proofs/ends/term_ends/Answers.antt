-- The terms of the least and of the greatest ordinal are the ends of the terms' cells.
use Rattle.std.proofs.Common.{◌≡◌, ℕ, ◌<◌, Some, length, sym, ◌∙◌, ap, ap₂, subst, arith}
use Rattle.col_column.specs.Columns.{Seen}
use Rattle.col_numbers.specs.NumValues.{num_values_of}
use Rattle.col_numbers.specs.declared.num_values.NumValues.{NumValues}
use Rattle.col_values.specs.Bounds.{AreExact}
use Rattle.col_model.specs.Codes.{number_cmp}
use Rattle.col_facet.specs.Tables.{term_at}
use Rattle.col_look.proofs.ends.term_ends.Goals as goal
use Rattle.col_look.proofs.EndLemmas.{no-ends, term-ends}

pub returns-then-num_vals-eq0 : goal.returns-then-num_vals-eq0
returns-then-num_vals-eq0 c =
    let texts = c.args.column.now in
    let same = ap num_values_of c.values-ords.ensures ∙ ap (λ (o : Seen (NumValues ℕ)). num_values_of o.values) c.ords.ensures in
    no-ends (term_at texts.terms) (num_values_of texts.ords.values)
    (ap length (sym same) ∙ sym c.num_vals.ensures ∙ c.if-num_vals-eq0.true)

pub returns : goal.returns
returns c =
    let texts = c.args.column.now in
    let lo = c.min_value.result in
    let hi = c.max_value.result in
    let same = ap num_values_of c.values-ords.ensures ∙ ap (λ (o : Seen (NumValues ℕ)). num_values_of o.values) c.ords.ensures in
    let some : 0 < length (num_values_of texts.ords.values) =
    omega (arith, ap length same, c.num_vals.ensures, c.if-num_vals-eq0.false) in
    let exact = c.values_are_in_type.ensures.bounds lo hi c.min_value.ensures.value c.max_value.ensures.value in
    ap₂ (λ a b. (Some a, Some b)) c.in_ok-least.ensures c.in_ok-greatest.ensures
    ∙ term-ends (λ n. n ≡ 0) texts.terms (num_values_of texts.ords.values) lo hi
    c.ordinals_are_told.ensures.ordinals.ascend c.ordinals_are_told.ensures.ordinals.below
    (subst (λ ns. AreExact number_cmp (λ n. n ≡ 0) ns lo hi) same exact) some
