use Rattle.std.proofs.Common.{◌≡◌, ◌+◌, ◌-◌, ◌*◌, ◌%◌, ◌^◌, ◌<◌, arith, ap, subst}
use Rattle.col_codecs.specs.OnLine.{shift_of}
use Rattle.col_codecs.specs.Residues.{residue, IsLeast}
use Rattle.col_codecs.specs.declared.line.Line.{Line}
use Rattle.col_codecs.proofs.OnLineLemmas.{bounds-by, shift-small}
use Rattle.col_codecs.proofs.on_line.bounds_by.Goals as goal

pub returns : goal.returns
returns c =
    let a = c.args in
    let l : Line = record { slope = a.slope; intercept = a.intercept } in
    let low = c.least_residue-least.result in
    let high = c.least_residue-below.result in
    let moved = c.from-3.result in
    let fits : l.intercept < 2 ^ 64 = omega (arith, c.ranges.intercept) in
    let at : moved ≡ (l.slope * a.start % 2 ^ 64 + shift_of l.intercept * 2 ^ 32) % 2 ^ 64 =
    omega (arith, c.from-3.ensures, c.shift_of-moved.ensures, shift-small l.intercept fits, ap (λ k. l.slope * k) c.from.ensures) in
    let back : c.from-4.result ≡ 2 ^ 64 - 1 - moved = omega (arith, c.from-3.ensures, c.from-4.ensures) in
    bounds-by l a.start a.count moved c.from-down.result low high c.lifted.result c.lifted-2.result c.requires.some
    (omega (arith, c.ranges.slope)) fits at (omega arith)
    (subst (λ s. IsLeast (residue (2 ^ 64) s moved) a.count low) c.from-2.ensures c.least_residue-least.ensures)
    (subst (λ b. IsLeast (residue (2 ^ 64) c.from-down.result b) a.count high) back c.least_residue-below.ensures)
    c.lifted.ensures c.lifted-2.ensures
