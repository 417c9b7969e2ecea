use Rattle.std.proofs.Common.{◌≡◌, ◌+◌}
use Rattle.std.specs.Vec.{vec_len, vec_capacity}
use Rattle.col_outcome.proofs.OpeningLemmas.{HaveOpened}
use Rattle.col_outcome.proofs.inputs.open_files.Given as goal

abbrev pub invariant-loop-place : goal.invariant-loop-place
invariant-loop-place g l = record {
  opened : HaveOpened l.files l.fn.readers.items l.place l.readers.items;
  many : vec_len l.readers ≡ vec_len l.fn.readers + l.place;
  room : vec_capacity l.readers ≡ vec_capacity l.fn.readers;
}
