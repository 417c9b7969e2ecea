use Rattle.std.proofs.Common.{◌≡◌, ℕ, ◌+◌, ◌-◌, ◌*◌, ◌%◌, ◌^◌, ◌∙◌, List, ap, arith, take, drop, map, length, length-drop}
use Rattle.std.specs.List.{range_with_len}
use Rattle.std.proofs.lemmas.List.{take_all}
use Rattle.col_bits.specs.Packed.{item, items}
use Rattle.col_model.proofs.StatsLaws.{map-map}
use Rattle.col_codecs.specs.Line.{raised}
use Rattle.col_codecs.specs.Blocks.{step_in}
use Rattle.col_codecs.specs.Turning.{by_position}
use Rattle.col_codecs.proofs.TurningLemmas.{by_position-of}
use Rattle.col_codecs.proofs.BlockRangeLemmas.{raised-first}
use Rattle.col_codecs.proofs.blockwise_linear.reader.read_part.Goals as goal

-- bytes from a place on
from : (start : ℕ) (bytes : List ℕ) → take (length bytes - start) (drop start bytes) ≡ drop start bytes
from start bytes = take_all (length bytes - start) (drop start bytes) (omega (arith, length-drop start bytes))

pub returns-then-divisor-eq1 : goal.returns-then-divisor-eq1
returns-then-divisor-eq1 c =
    let a = c.args in
    let b = a.block in
    let w = b.bit_unpacker in
    let n = length a.output.now in
    let read = item (drop b.start a.bytes.now) w in
    let line = c.raised_by.result in
    let above = raised line.slope line.intercept in
    c.add_to.ensures
    ∙ ap (by_position above a.place) (c.get_range.ensures ∙ ap (λ cut. items cut w a.place n) (from b.start a.bytes.now))
    ∙ by_position-of above read a.place n
    ∙ λ k. map (λ i. raised-first a.least a.divisor b.line.slope b.line.intercept line.slope line.intercept i
    (read i) c.raised_by.ensures.slope c.raised_by.ensures.intercept c.if-divisor-eq1.true k)
    (range_with_len a.place n)

pub returns : goal.returns
returns c =
    let a = c.args in
    let b = a.block in
    let w = b.bit_unpacker in
    let n = length a.output.now in
    let above = raised b.line.slope b.line.intercept in
    let turned : ℕ → ℕ = λ k. (a.least + a.divisor * k) % 2 ^ 64 in
    c.take_items.ensures
    ∙ ap (map turned) (c.add_to-2.ensures
    ∙ ap (by_position above a.place) (c.get_range.ensures ∙ ap (λ cut. items cut w a.place n) (from b.start a.bytes.now))
    ∙ by_position-of above (item (drop b.start a.bytes.now) w) a.place n)
    ∙ map-map (step_in b a.bytes.now) turned (range_with_len a.place n)
