use Rattle.std.proofs.Common.{◌∙◌, ap}
use Rattle.col_types.specs.declared.numerical_type.NumericalType.TheVariants.{I64}
use Rattle.col_writer_columns.specs.Values.{same_then}
use Rattle.col_writer_columns.proofs.TypeListLemmas.{same_then-none}
use Rattle.col_writer_columns.proofs.type_list.TypeList.new.Goals as goal

pub returns : goal.returns
returns c = ap (same_then 0 I64) c.new.ensures.items ∙ same_then-none
