use Rattle.col_compact.specs.Coded.{numbers_of}
use Rattle.col_compact.proofs.decompressor.CompactSpaceDecompressorColumnValuesU128.min_value.Goals as goal
use Rattle.col_model.proofs.StatsLaws.{least-below}

pub returns-clause-encloses : goal.returns-clause-encloses
returns-clause-encloses c = least-below (numbers_of c.args.self.now) c.min_value.result c.min_value.ensures
