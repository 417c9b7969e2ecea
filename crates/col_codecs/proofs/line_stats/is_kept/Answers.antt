use Rattle.std.proofs.Common.{◌≡◌, ◌⊎◌, ◌+◌, ◌-◌, ◌*◌, ◌/◌, ◌%◌, ◌^◌, ◌<◌, ◌≤◌, inl, inr, arith, ap, sym, ◌∙◌}
use Rattle.std.proofs.Math.Nat.{mod-one}
use Rattle.std.proofs.lemmas.Bool.Decides.{nat_tests}
use Rattle.col_model.specs.Line.{line}
use Rattle.col_codecs.specs.declared.line.Line.{Line}
use Rattle.col_codecs.specs.OnLine.{on_line, shift_of}
use Rattle.col_codecs.proofs.OnLineLemmas.{all-range, within-bounds, jump}
use Rattle.col_codecs.proofs.LineStatsLemmas.{left-in-halves, left-in-rise, left-in-fall}
use Rattle.col_codecs.proofs.line_stats.is_kept.Goals.{else-bounds-ge-HALVES-via-then-bounds-ge-HALVES+else-divisor-ne0, else-bounds-ge-HALVES-via-else-bounds-ge-HALVES}
use Rattle.col_codecs.proofs.line_stats.is_kept.Goals as goal

pub returns-then-divisor-eq1 : goal.returns-then-divisor-eq1
returns-then-divisor-eq1 c =
    λ yes. let a = c.args in
    all-range (λ y. y % a.divisor ≡ line a.slope a.intercept 0 % a.divisor) (line a.slope a.intercept) 0 a.count
    (λ i h. ap (λ g. line a.slope a.intercept (0 + i) % g) c.if-divisor-eq1.true ∙ mod-one (line a.slope a.intercept (0 + i))
    ∙ sym (ap (λ g. line a.slope a.intercept 0 % g) c.if-divisor-eq1.true ∙ mod-one (line a.slope a.intercept 0)))

pub returns-then-divisor-eq0 : goal.returns-then-divisor-eq0
returns-then-divisor-eq0 c =
    λ yes. let a = c.args in
    let l : Line = record { slope = a.slope; intercept = a.intercept } in
    let divides : a.slope / 2 ^ 32 % a.divisor ≡ 0 = grind (arith, nat_tests) in
    let flat : a.slope % 2 ^ 32 * (a.count - 1) < 2 ^ 32 = omega (arith, ap (λ k. a.slope % 2 ^ 32 * k) c.from-last.ensures) in
    all-range (λ y. y % a.divisor ≡ on_line l 0 % a.divisor) (on_line l) 0 a.count
    (λ i h. left-in-halves l a.count (omega (arith, c.ranges.slope)) (omega (arith, c.ranges.intercept)) flat a.divisor (0 + i)
    (omega arith) c.if-divisor-eq0.true divides)

pub overflow_sub-bounds : goal.overflow_sub-bounds
overflow_sub-bounds c =
    let a = c.args in
    let l : Line = record { slope = a.slope; intercept = a.intercept } in
    let w = within-bounds l a.bounds 0 a.count 0 c.requires.bounds (omega arith) (omega arith) in omega (arith, w.0, w.1)

pub returns-then-shift-step-lt-HALVES : goal.returns-then-shift-step-lt-HALVES
returns-then-shift-step-lt-HALVES c =
    λ yes. let a = c.args in
    let l : Line = record { slope = a.slope; intercept = a.intercept } in
    let b = a.bounds in
    let step = a.slope / 2 ^ 32 in
    let divides : step % a.divisor ≡ 0 = grind (arith, nat_tests) in
    let flat : a.slope % 2 ^ 32 * (a.count - 1) < 2 ^ 32 = omega (arith, ap (λ k. a.slope % 2 ^ 32 * k) c.from-last.ensures) in
    let straight : shift_of l.intercept + step * (a.count - 1) < 2 ^ 32 =
    omega (arith, c.shift_of-shift.ensures, ap (λ k. step * k) c.from-last.ensures) in
    let whole : (b.greatest < b.least + 2 ^ 32) ⊎ (jump % a.divisor ≡ 0) =
    elim c.else-bounds-ge-HALVES.branch [
      | else-bounds-ge-HALVES-via-then-bounds-ge-HALVES+else-divisor-ne0 w ↦ inr (omega (arith, w.if-divisor-ne0.false))
      | else-bounds-ge-HALVES-via-else-bounds-ge-HALVES w ↦ inl (omega (arith, w.if-bounds-ge-HALVES.false))
    ] in
    all-range (λ y. y % a.divisor ≡ on_line l 0 % a.divisor) (on_line l) 0 a.count
    (λ i h. left-in-rise l a.count (omega (arith, c.ranges.slope)) (omega (arith, c.ranges.intercept)) flat a.divisor (0 + i)
    b.least b.greatest (omega arith) straight divides
    (within-bounds l b 0 a.count (0 + i) c.requires.bounds (omega arith) (omega arith))
    (within-bounds l b 0 a.count 0 c.requires.bounds (omega arith) (omega arith)) whole)

pub returns-then-down-last : goal.returns-then-down-last
returns-then-down-last c =
    λ yes. let a = c.args in
    let l : Line = record { slope = a.slope; intercept = a.intercept } in
    let b = a.bounds in
    let step = a.slope / 2 ^ 32 in
    let down = 2 ^ 32 - step in
    let divides : down % a.divisor ≡ 0 = grind (arith, nat_tests) in
    let flat : a.slope % 2 ^ 32 * (a.count - 1) < 2 ^ 32 = omega (arith, ap (λ k. a.slope % 2 ^ 32 * k) c.from-last.ensures) in
    let straight : down * (a.count - 1) ≤ shift_of l.intercept =
    omega (arith, c.if-down-last.true, c.shift_of-shift.ensures, ap (λ k. down * k) c.from-last.ensures) in
    let whole : (b.greatest < b.least + 2 ^ 32) ⊎ (jump % a.divisor ≡ 0) =
    elim c.else-bounds-ge-HALVES.branch [
      | else-bounds-ge-HALVES-via-then-bounds-ge-HALVES+else-divisor-ne0 w ↦ inr (omega (arith, w.if-divisor-ne0.false))
      | else-bounds-ge-HALVES-via-else-bounds-ge-HALVES w ↦ inl (omega (arith, w.if-bounds-ge-HALVES.false))
    ] in
    all-range (λ y. y % a.divisor ≡ on_line l 0 % a.divisor) (on_line l) 0 a.count
    (λ i h. left-in-fall l a.count (omega (arith, c.ranges.slope)) (omega (arith, c.ranges.intercept)) flat a.divisor (0 + i)
    b.least b.greatest (omega arith) straight divides
    (within-bounds l b 0 a.count (0 + i) c.requires.bounds (omega arith) (omega arith))
    (within-bounds l b 0 a.count 0 c.requires.bounds (omega arith) (omega arith)) whole)
