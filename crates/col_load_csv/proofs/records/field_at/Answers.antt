use Rattle.csv.specs.Records.{fields_of}
use Rattle.col_load_csv.proofs.ReaderLemmas.{field_none, field_some}
use Rattle.col_load_csv.proofs.records.field_at.Goals as goal

pub returns-in-Some : goal.returns-in-Some
returns-in-Some c = field_some (fields_of c.args.row.now) c.args.place c.in-Some.field.now c.in-Some.ensures.value

pub returns-in-None : goal.returns-in-None
returns-in-None c = field_none (fields_of c.args.row.now) c.args.place c.in-None.ensures.value
