use Rattle.std.proofs.Common.{◌≡◌, ◌+◌, ◌≤◌, reverse}
use Rattle.std.specs.Vec.{vec_len, vec_capacity}
use Rattle.col_outcome.proofs.OpeningLemmas.{Opening}
use Rattle.col_outcome.proofs.inputs.open_inputs.Given as goal

abbrev pub invariant-loop-input : goal.invariant-loop-input
invariant-loop-input g l = record {
  opening : Opening g.H.FileHandle.seen (reverse l.fn.left.items) l.readers.items l.left.items;
  fits : vec_len l.readers + vec_len l.left ≤ vec_capacity l.readers;
  left_room : vec_capacity l.left ≡ vec_capacity l.fn.left;
  room : vec_capacity l.readers ≡ vec_capacity l.fn.readers;
}

abbrev pub decreases-loop-input : goal.decreases-loop-input
decreases-loop-input g l = vec_len l.left
