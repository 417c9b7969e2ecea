use Rattle.std.proofs.Common.{◌≡◌, ℕ, refl, ◌+◌, ◌-◌, ◌*◌, ◌<◌, ◌≤◌, ◌/◌, length, get_or, sym, ◌∙◌, arith}
use Rattle.col_common.specs.Flags.{flags_of}
use Rattle.col_common.proofs.FlagLemmas.{IsFirstFlag, length-flags, word_first, word_empty}
use Rattle.col_common.proofs.MemberLemmas.{members_end, members_more, members_skip}
use Rattle.col_query.proofs.WordLemmas.{read_word}
use Rattle.col_query.proofs.words.first_from.Goals as goal

pub returns-then-found-num_docs-clause-first : goal.returns-then-found-num_docs-clause-first
returns-then-found-num_docs-clause-first c =
    let words = c.args.words.now in
    let n = c.args.num_docs in
    let flags = flags_of words n in
    let at = c.loop-at.at in
    let word = get_or words (at / 64) 0 in
    let read : word ≡ get_or words (at / 64) word = read_word words (at / 64) word (omega arith) in
    let found = at + c.from.result in
    let long : length flags ≡ n = length-flags words n in
    let within : found < length flags = omega arith in
    let first : IsFirstFlag flags at found = rw c.from.ensures (word_first words n at word flags refl
    (omega arith) (omega arith) read (omega (arith, c.type_inv.words (at / 64))) (omega arith)) in (
      within,
      sym c.loop-at.invariant.0
          ∙ (members_skip flags at (found - at) found (omega arith) first.before
          ∙ members_more flags found within (first.here within)),
    )

pub returns-then-word-ne0-clause-first : goal.returns-then-word-ne0-clause-first
returns-then-word-ne0-clause-first c =
    let words = c.args.words.now in
    let n = c.args.num_docs in
    let flags = flags_of words n in
    let at = c.loop-at.at in
    let found = at + c.from.result in
    let word = get_or words (at / 64) 0 in
    let read : word ≡ get_or words (at / 64) word = read_word words (at / 64) word (omega arith) in
    let long : length flags ≡ n = length-flags words n in
    let first : IsFirstFlag flags at found = rw c.from.ensures (word_first words n at word flags
    refl (omega arith) (omega arith) read (omega (arith, c.type_inv.words (at / 64))) (omega arith)) in
    sym c.loop-at.invariant.0
    ∙ (members_skip flags at (found - at) found (omega arith) first.before ∙ members_end flags found (omega arith))

pub loop-at-preserved : goal.loop-at-preserved
loop-at-preserved c =
    let words = c.args.words.now in
    let n = c.args.num_docs in
    let flags = flags_of words n in
    let at = c.loop-at.at in
    let next = (at / 64 + 1) * 64 in
    let word = get_or words (at / 64) 0 in
    let read : word ≡ get_or words (at / 64) word = read_word words (at / 64) word (omega arith) in
    let none = λ (k : ℕ) (above : at ≤ k) (below : k < next). word_empty words n at word k flags
    refl (omega arith) (omega arith) read c.if-word-ne0.false
    above below in (
      sym (members_skip flags at (next - at) next (omega arith) none) ∙ c.loop-at.invariant.0,
      omega arith,
    )

pub returns-clause-first : goal.returns-clause-first
returns-clause-first c =
    let words = c.args.words.now in
    let n = c.args.num_docs in
    let flags = flags_of words n in
    let long : length flags ≡ n = length-flags words n in
    sym c.loop-at.invariant.0 ∙ members_end flags c.loop-at.at (omega arith)
