use Rattle.std.proofs.Common.{refl, arith}
use Rattle.col_compact.proofs.SpelledLemmas.{footer-again-of}
use Rattle.col_compact.proofs.compact_space.CompactSpace.footers_are_read_back.Goals as goal

pub returns : goal.returns
returns c bounds = footer-again-of _ _ _ _ _ c.self.invariant c.self.view_is refl refl (omega arith) bounds
