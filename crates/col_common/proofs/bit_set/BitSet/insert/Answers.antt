use Rattle.std.proofs.Common.{◌≡◌, ◌∙◌, Bool, length, sym, ap, arith}
use Rattle.std.proofs.lemmas.List.Sums.{count_by-le-length}
use Rattle.col_common.specs.Flags.{flags_of}
use Rattle.col_common.proofs.FlagLemmas.{length-flags, flags_put, counts_put}
use Rattle.col_common.proofs.bit_set.BitSet.insert.Goals as goal

pub index_mut-requires : goal.index_mut-requires
index_mut-requires c =
    let s = c.self.inside in
    let long : length c.args.self.now ≡ s.max_value = sym (ap length c.self.view_is) ∙ length-flags s.words.items s.max_value in
    omega (arith, c.self.invariant.room)

pub overflow_add-self : goal.overflow_add-self
overflow_add-self c =
    let s = c.self.inside in
    let flags = flags_of s.words.items s.max_value in
    omega (arith, c.self.invariant.counted, count_by-le-length (λ (flag : Bool). flag) flags, length-flags s.words.items s.max_value)

pub invariant_of-self : goal.invariant_of-self
invariant_of-self c =
    let s = c.self.inside in
    let long : length c.args.self.now ≡ s.max_value = sym (ap length c.self.view_is) ∙ length-flags s.words.items s.max_value in
    counts_put s.words.items s.max_value c.from-at.result c.args.el c.index_mut.result.now s.len c.args.self.now
    c.self.view_is c.from-at.ensures (omega arith) c.index_mut.ensures.value (sym c.if-not-contains.ensures)
    c.self.invariant

pub returns-then-not-contains : goal.returns-then-not-contains
returns-then-not-contains c =
    let s = c.self.inside in
    let long : length c.args.self.now ≡ s.max_value = sym (ap length c.self.view_is) ∙ length-flags s.words.items s.max_value in
    flags_put s.words.items s.max_value c.from-at.result c.args.el c.index_mut.result.now c.args.self.now
    c.self.view_is c.from-at.ensures (omega arith) (omega (arith, c.self.invariant.room))
    c.index_mut.ensures.value
