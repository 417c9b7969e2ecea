use Rattle.std.proofs.Common.{◌≡◌, true, false, ℤ, int_le, int_lt, to_z, of_z, List, ℕ, IsTrue, OnOk, sym, ap, ◌∙◌, subst, arith}
use Rattle.std.proofs.lemmas.Int.{ints}
use Rattle.std.specs.Int.{w128}
use Rattle.col_dynamic.specs.Dynamic.{type_of, content_of}
use Rattle.col_program.specs.Queries.{num}
use Rattle.col_questions.specs.Steps.{is_end_of}
use Rattle.col_places.specs.Ranges.{least_of, greatest_of}
use Rattle.col_places.proofs.RangeLemmas.{end-fits, ends-above, ends-ordered, moved-high, moved-low, rows-by, rows-outside, rows-same}
use Rattle.col_places.proofs.ends.put_numbers.Goals as goal

pub returns-then-high-low : goal.returns-then-high-low
returns-then-high-low c =
    let t = type_of c.args.column.now in
    let is = c.column_type-column_type.ensures in
    let low = c.raised-low.result in
    let high = c.lowered-high.result in
    let low_is : to_z w128 (of_z w128 low) ≡ low = omega (arith, ints, c.raised-low.type_inv) in
    let high_is : to_z w128 (of_z w128 high) ≡ high = omega (arith, ints, c.lowered-high.type_inv) in
    let lo_is : to_z w128 (of_z w128 c.args.lo) ≡ c.args.lo = omega (arith, ints, c.ranges.lo.sfits) in
    let hi_is : to_z w128 (of_z w128 c.args.hi) ≡ c.args.hi = omega (arith, ints, c.ranges.hi.sfits) in
    let past : int_lt high low ≡ true = sym (λ i. int_lt (high_is i) (low_is i)) ∙ c.if-high-low.true in
    c.clear.ensures.items
    ∙ sym (rows-outside t c.args.lo c.args.hi low high c.requires.kind
    (moved-low _ t _ c.args.lo low is lo_is c.raised-low.ensures.same)
    (moved-high _ t _ c.args.hi high is hi_is c.lowered-high.ensures.same)
    (content_of c.args.column.now) c.args.num_rows c.requires.cells past)

pub put_clamped-requires-clause-low : goal.put_clamped-requires-clause-low
put_clamped-requires-clause-low c =
    let t = type_of c.args.column.now in
    let is = c.column_type-column_type.ensures in
    let low = c.raised-low.result in
    let high = c.lowered-high.result in
    let low_is : to_z w128 (of_z w128 low) ≡ low = omega (arith, ints, c.raised-low.type_inv) in
    let high_is : to_z w128 (of_z w128 high) ≡ high = omega (arith, ints, c.lowered-high.type_inv) in
    let least : int_le (least_of t) low ≡ true = ap (λ t. int_le (least_of t) low) (sym is) ∙ c.raised-low.ensures.least in
    let most : int_le high (greatest_of t) ≡ true = ap (λ t. int_le high (greatest_of t)) (sym is) ∙ c.lowered-high.ensures.greatest in
    let ordered : int_lt high low ≡ false = sym (λ i. int_lt (high_is i) (low_is i)) ∙ c.if-high-low.false in
    subst (λ (z : ℤ). IsTrue (is_end_of t (num z))) (sym low_is)
    (end-fits t c.args.lo low c.requires.kind least (ends-ordered low high (greatest_of t) ordered most))

pub put_clamped-requires-clause-high : goal.put_clamped-requires-clause-high
put_clamped-requires-clause-high c =
    let t = type_of c.args.column.now in
    let is = c.column_type-column_type.ensures in
    let low = c.raised-low.result in
    let high = c.lowered-high.result in
    let low_is : to_z w128 (of_z w128 low) ≡ low = omega (arith, ints, c.raised-low.type_inv) in
    let high_is : to_z w128 (of_z w128 high) ≡ high = omega (arith, ints, c.lowered-high.type_inv) in
    let least : int_le (least_of t) low ≡ true = ap (λ t. int_le (least_of t) low) (sym is) ∙ c.raised-low.ensures.least in
    let most : int_le high (greatest_of t) ≡ true = ap (λ t. int_le high (greatest_of t)) (sym is) ∙ c.lowered-high.ensures.greatest in
    let ordered : int_lt high low ≡ false = sym (λ i. int_lt (high_is i) (low_is i)) ∙ c.if-high-low.false in
    subst (λ (z : ℤ). IsTrue (is_end_of t (num z))) (sym high_is)
    (end-fits t c.args.lo high c.requires.kind (ends-above low high (least_of t) ordered least) most)

pub returns : goal.returns
returns c =
    let t = type_of c.args.column.now in
    let is = c.column_type-column_type.ensures in
    let low = c.raised-low.result in
    let high = c.lowered-high.result in
    let low_is : to_z w128 (of_z w128 low) ≡ low = omega (arith, ints, c.raised-low.type_inv) in
    let high_is : to_z w128 (of_z w128 high) ≡ high = omega (arith, ints, c.lowered-high.type_inv) in
    let lo_is : to_z w128 (of_z w128 c.args.lo) ≡ c.args.lo = omega (arith, ints, c.ranges.lo.sfits) in
    let hi_is : to_z w128 (of_z w128 c.args.hi) ≡ c.args.hi = omega (arith, ints, c.ranges.hi.sfits) in
    let content = content_of c.args.column.now in
    let own =
    rows-same t c.args.lo c.args.hi low high c.requires.kind
    (moved-low _ t _ c.args.lo low is lo_is c.raised-low.ensures.same)
    (moved-high _ t _ c.args.hi high is hi_is c.lowered-high.ensures.same)
    content c.args.num_rows c.requires.cells in
    let wrapped = rows-by content c.args.num_rows _ low _ high low_is high_is in
    subst (λ (rows : List ℕ). OnOk c.put_clamped.result (c.put_clamped.new.rows.items ≡ rows)) (wrapped ∙ own) c.put_clamped.ensures
