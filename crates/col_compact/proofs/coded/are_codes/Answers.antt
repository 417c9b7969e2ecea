use Rattle.std.proofs.Common.{◌≡◌, ◌<◌, length, sym, ◌∙◌, ap, arith}
use Rattle.col_bits.specs.Packed.{items}
use Rattle.col_model.specs.Stats.{least_of, greatest_of}
use Rattle.col_compact.proofs.CodedLemmas.{none_coded, length_items}
use Rattle.col_compact.proofs.coded.are_codes.Goals as goal

pub returns-then-count-eq0 : goal.returns-then-count-eq0
returns-then-count-eq0 c =
    let f = c.args.params.now in
    let none : f.count ≡ 0 = sym c.num_vals-count.ensures.value ∙ c.if-count-eq0.true in
    let bounds = c.num_vals-count.ensures.none none in
    none_coded f c.args.codes.now none bounds.0 bounds.1

pub returns : goal.returns
returns c =
    let f = c.args.params.now in
    let bytes = c.args.codes.now in
    let codes = items bytes f.code_width 0 f.count in
    let u = c.bit_unpacker.ensures.value in
    let n = c.num_vals-count.ensures.value in
    let same : items bytes c.bit_unpacker.result 0 c.num_vals-count.result ≡ codes = λ i. items bytes (u i) 0 (n i) in
    let some : 0 < length codes = omega (arith, length_items bytes f.code_width f.count, n, c.if-count-eq0.false) in
    c.have_bounds.ensures codes some (c.code_bounds-least.ensures.least ∙ ap least_of same)
    (c.code_bounds-least.ensures.greatest ∙ ap greatest_of same)
