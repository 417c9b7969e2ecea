use Rattle.std.proofs.Common.{◌≡◌, ℕ, ◌*◌, ◌<◌, cond, eqb, length, take}
use Rattle.std.specs.List.{list_any}
use Rattle.col_common.specs.Flags.{flag_at}
use Rattle.col_query.proofs.words.put_bits.Given as goal

-- the bits of the documents that were passed are written
abbrev pub invariant-loop-doc : goal.invariant-loop-doc
invariant-loop-doc l = (k : ℕ) → k < 64 * length l.words → flag_at l.words k
    ≡ cond (list_any (λ d. eqb k d) (take l.doc-index l.docs)) l.value (flag_at l.initial.words k)
