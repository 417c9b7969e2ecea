use Rattle.std.proofs.Common.{◌≡◌, ◌+◌, ◌%◌, ◌^◌, fold, min, refl, ap, sym, ◌∙◌}
use Rattle.col_codecs.specs.Line.{distances}
use Rattle.col_codecs.proofs.LineLemmas.{trained_line-one, trained_line-passed}
use Rattle.col_codecs.proofs.line.Line.train_from.Goals as goal

pub returns-then-num_vals-eq1 : goal.returns-then-num_vals-eq1
returns-then-num_vals-eq1 g c = trained_line-one _ _ _ _ _ _ c.if-num_vals-eq1.true c.default.ensures.0 c.default.ensures.1

pub returns : goal.returns
returns g c =
    let slope = c.slope_between-slope.result in
    let items = g.I.Iterable.items c.args.items.now in
    let mark = (c.args.first_val + 0xffff_ffff_0000_0001) % 2 ^ 64 in
    let least : c.loop-pos.least ≡ fold min 0xffff_ffff_ffff_ffff (distances slope mark items) =
    sym (ap (λ ps. fold min c.loop-pos.least (distances slope mark ps)) c.in_default.ensures.value.0)
    ∙ c.loop-pos.invariant.1 in
    trained_line-passed c.args.first_val c.args.last_val c.args.num_vals slope mark c.loop-pos.least _ items
    c.if-num_vals-eq1.false c.requires.items c.slope_between-slope.ensures refl least refl
