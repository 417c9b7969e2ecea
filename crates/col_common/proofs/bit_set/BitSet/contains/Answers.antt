use Rattle.std.proofs.Common.{◌≡◌, ◌∙◌, length, get_or, false, sym, ap, arith}
use Rattle.col_common.proofs.FlagLemmas.{length-flags, flag_read}
use Rattle.col_common.proofs.bit_set.BitSet.contains.Goals as goal

pub index-requires : goal.index-requires
index-requires c =
    let s = c.self.inside in
    let long : length c.args.self.now ≡ s.max_value = sym (ap length c.self.view_is) ∙ length-flags s.words.items s.max_value in
    omega (arith, c.self.invariant.room)

pub returns : goal.returns
returns c =
    let s = c.self.inside in
    let long : length c.args.self.now ≡ s.max_value = sym (ap length c.self.view_is) ∙ length-flags s.words.items s.max_value in
    flag_read s.words.items s.max_value c.from-at.result c.index.result.now c.args.self.now c.self.view_is
    (omega arith) (omega (arith, c.self.invariant.room)) c.index.ensures
    ∙ ap (λ k. get_or c.args.self.now k false) c.from-at.ensures
