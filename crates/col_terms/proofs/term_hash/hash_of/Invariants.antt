use Rattle.std.proofs.Common.{◌≡◌, ◌-◌, ◌*◌, ◌/◌, length, drop}
use Rattle.col_terms.specs.Hashing.{mixed_words}
use Rattle.col_terms.proofs.term_hash.hash_of.Given as goal

abbrev pub invariant-loop-i : goal.invariant-loop-i
invariant-loop-i l = mixed_words (length l.term / 8 - l.i) l.hash (drop (l.i * 8) l.term) ≡ mixed_words (length l.term / 8) 0 l.term
