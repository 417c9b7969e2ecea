use Rattle.std.proofs.Common.{◌≡◌, ℕ, ◌+◌, ◌-◌, ◌*◌, ◌<◌, ◌≤◌, ◌/◌, length, sym, ap, ◌∙◌, arith}
use Rattle.col_common.proofs.FlagLemmas.{IsFirstFlag, length-flags, word_first, word_empty}
use Rattle.col_common.proofs.MemberLemmas.{members_end, members_more, members_skip}
use Rattle.col_common.proofs.bit_set.BitSet.first_from.Goals as goal

pub returns-then-found-max_value : goal.returns-then-found-max_value
returns-then-found-max_value c =
    let flags = c.args.self.now in
    let at = c.loop-at.at in
    let words = c.self.inside.words.items in
    let n = c.self.inside.max_value in
    let word = c.index.result.now in
    let found = at + c.from.result in
    let long : length flags ≡ n = sym (ap length c.self.view_is) ∙ length-flags words n in
    let within : found < length flags = omega arith in
    let first : IsFirstFlag flags at found = rw c.from.ensures (word_first words n at word flags c.self.view_is
    (omega arith) (omega (arith, c.self.invariant.room)) c.index.ensures (omega arith) (omega arith)) in (
      within,
      sym c.loop-at.invariant
          ∙ (members_skip flags at (found - at) found (omega arith) first.before
          ∙ members_more flags found within (first.here within)),
    )

pub returns-then-word-ne0 : goal.returns-then-word-ne0
returns-then-word-ne0 c =
    let flags = c.args.self.now in
    let at = c.loop-at.at in
    let words = c.self.inside.words.items in
    let n = c.self.inside.max_value in
    let found = at + c.from.result in
    let long : length flags ≡ n = sym (ap length c.self.view_is) ∙ length-flags words n in
    let first : IsFirstFlag flags at found = rw c.from.ensures (word_first words n at c.index.result.now flags
    c.self.view_is (omega arith) (omega (arith, c.self.invariant.room)) c.index.ensures (omega arith)
    (omega arith)) in
    sym c.loop-at.invariant ∙ (members_skip flags at (found - at) found (omega arith) first.before ∙ members_end flags found (omega arith))

pub loop-at-preserved : goal.loop-at-preserved
loop-at-preserved c =
    let flags = c.args.self.now in
    let at = c.loop-at.at in
    let words = c.self.inside.words.items in
    let n = c.self.inside.max_value in
    let next = (at / 64 + 1) * 64 in
    let none = λ (k : ℕ) (above : at ≤ k) (below : k < next). word_empty words n at c.index.result.now k flags
    c.self.view_is (omega arith) (omega (arith, c.self.invariant.room)) c.index.ensures c.if-word-ne0.false
    above below in
    sym (members_skip flags at (next - at) next (omega arith) none) ∙ c.loop-at.invariant

pub returns : goal.returns
returns c =
    let flags = c.args.self.now in
    let words = c.self.inside.words.items in
    let n = c.self.inside.max_value in
    let long : length flags ≡ n = sym (ap length c.self.view_is) ∙ length-flags words n in
    sym c.loop-at.invariant ∙ members_end flags c.loop-at.at (omega arith)
