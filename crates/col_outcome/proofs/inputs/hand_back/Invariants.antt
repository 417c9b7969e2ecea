use Rattle.std.proofs.Common.{◌+◌, ◌≤◌, length}
use Rattle.std.specs.Vec.{vec_len, vec_capacity}
use Rattle.col_outcome.specs.Parts.{given_in, files_in}
use Rattle.col_outcome.proofs.OpeningLemmas.{Handing}
use Rattle.col_outcome.proofs.inputs.hand_back.Given as goal

abbrev pub invariant-loop-reader : goal.invariant-loop-reader
invariant-loop-reader g l = record {
  handing : Handing g.H.FileHandle.seen l.fn.readers.items l.fn.left.items l.readers.items l.left.items;
  fits : length (given_in (files_in l.readers.items)) + vec_len l.left ≤ vec_capacity l.left;
}

abbrev pub decreases-loop-reader : goal.decreases-loop-reader
decreases-loop-reader g l = vec_len l.readers
