use Rattle.std.proofs.Common.{◌≡◌, ◌∙◌, length, replicate, sym, ap, arith}
use Rattle.std.proofs.lemmas.List.{length-replicate}
use Rattle.std.specs.Int.{div_ceil}
use Rattle.col_common.specs.Flags.{flags_of, count_set}
use Rattle.col_common.proofs.FlagLemmas.{flags_none, count_none}
use Rattle.col_common.proofs.bit_set.BitSet.with_max_value.Goals as goal

pub invariant_of-result : goal.invariant_of-result
invariant_of-result c =
    let n = c.args.max_value in
    let count = c.div_ceil-count.result in
    let zeros : c.in_ok-words.words.items ≡ replicate count 0 = c.in_ok-words.ensures.items_if_clones_equal (λ y h. h) in
    record {
      room = ap length zeros ∙ (length-replicate count 0 ∙ (c.div_ceil-count.ensures ∙ ap (λ m. div_ceil m 64) c.from.ensures));
      counted = sym (ap (λ words. count_set (flags_of words n)) zeros ∙ (ap count_set (flags_none count n (omega arith)) ∙ count_none n));
    }

pub returns : goal.returns
returns c =
    let n = c.args.max_value in
    let count = c.div_ceil-count.result in
    let zeros : c.in_ok-words.words.items ≡ replicate count 0 = c.in_ok-words.ensures.items_if_clones_equal (λ y h. h) in
    ap (λ words. flags_of words n) zeros ∙ flags_none count n (omega arith)
