use Rattle.std.proofs.Common.{arith}
use Rattle.col_index.proofs.SetLemmas.{few_rows}
use Rattle.col_index.proofs.optional_index.OptionalIndex.for_test.Goals as goal

pub load_numbers-requires : goal.load_numbers-requires
load_numbers-requires c =
    let few = few_rows c.args.num_rows c.args.row_ids.now c.requires in
    omega arith
