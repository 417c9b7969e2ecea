use Rattle.col_compact.specs.Coded.{numbers_of}
use Rattle.col_compact.proofs.decompressor.CompactSpaceDecompressorColumnValuesU128.max_value.Goals as goal
use Rattle.col_model.proofs.StatsLaws.{greatest-above}

pub returns-clause-encloses : goal.returns-clause-encloses
returns-clause-encloses c = greatest-above (numbers_of c.args.self.now) c.max_value.result c.max_value.ensures
