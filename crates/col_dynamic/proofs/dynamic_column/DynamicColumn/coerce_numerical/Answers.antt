use Rattle.col_dynamic.proofs.dynamic_column.DynamicColumn.coerce_numerical.Goals as goal

pub returns-in-I64-clause-fits : goal.returns-in-I64-clause-fits
returns-in-I64-clause-fits c = rw c.in-I64.is c.into_i64_numbers.ensures.fits

pub returns-in-U64-clause-fits : goal.returns-in-U64-clause-fits
returns-in-U64-clause-fits c = rw c.in-U64.is c.into_u64_numbers.ensures.fits
