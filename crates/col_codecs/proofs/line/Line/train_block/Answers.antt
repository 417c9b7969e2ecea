use Rattle.std.proofs.Common.{◌+◌, ◌-◌, ◌%◌, ◌^◌, slice_index, length, refl, arith}
use Rattle.std.specs.List.{enumerate_from}
use Rattle.std.proofs.lemmas.List.FromFn.{length-enumerate_from}
use Rattle.col_codecs.proofs.LineLemmas.{trained_line-one, trained_line-passed}
use Rattle.col_codecs.proofs.line.Line.train_block.Goals as goal

pub returns-then-num_vals-eq1 : goal.returns-then-num_vals-eq1
returns-then-num_vals-eq1 c = trained_line-one _ _ _ _ _ _ c.if-num_vals-eq1.true c.default.ensures.0 c.default.ensures.1

pub returns : goal.returns
returns c =
    let ys = c.args.ys.now in
    let first = slice_index ys 0 in
    trained_line-passed first (slice_index ys (length ys - 1)) (length ys) c.slope_between-slope.result
    ((first + 0xffff_ffff_0000_0001) % 2 ^ 64) c.least_above-least.result _ (enumerate_from 0 ys)
    c.if-num_vals-eq1.false (omega (arith, length-enumerate_from 0 ys, c.requires.some))
    c.slope_between-slope.ensures refl c.least_above-least.ensures refl
