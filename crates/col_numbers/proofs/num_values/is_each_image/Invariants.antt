use Rattle.std.proofs.Common.{◌≡◌, take, true}
use Rattle.std.specs.List.{list_all}
use Rattle.col_numbers.specs.Readers.{list_of}
use Rattle.col_numbers.proofs.num_values.is_each_image.Given as goal

-- each number so far is an image
abbrev pub invariant-loop-idx : goal.invariant-loop-idx
invariant-loop-idx g l = list_all g.T.MonotonicallyMappableToU64.is_code (take l.idx (list_of l.values)) ≡ true
