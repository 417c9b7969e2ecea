use Rattle.col_index.proofs.LoadLemmas.{loaded-ok, loaded-err}
use Rattle.col_index.proofs.optional_index.load_numbers.Goals as goal

pub returns-clause-ok : goal.returns-clause-ok
returns-clause-ok c =
    loaded-ok c.serialize_and_load_u64_values.result c.args.numbers.now c.requires
    c.serialize_and_load_u64_values.ensures.ok

pub returns-clause-err : goal.returns-clause-err
returns-clause-err c =
    loaded-err c.serialize_and_load_u64_values.result c.args.numbers.now c.requires
    c.serialize_and_load_u64_values.ensures.ok
