use Rattle.std.proofs.Common.{arith}
use Rattle.col_compact.specs.Coded.{numbers_of}
use Rattle.col_compact.proofs.HeaderLemmas.{numbers-mapped}
use Rattle.col_compact.proofs.open.open_u128_mapped.Goals as goal

pub monotonic_map_column-requires : goal.monotonic_map_column-requires
monotonic_map_column-requires g c =
    numbers-mapped (numbers_of c.in_ok-list.list) c.max_value-greatest.result c.max_value-greatest.ensures
    (omega arith)
