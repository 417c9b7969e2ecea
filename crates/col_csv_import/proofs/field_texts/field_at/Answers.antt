use Rattle.csv.specs.Records.{fields_of}
use Rattle.col_csv_import.proofs.FieldLemmas.{field-missing, field-some}
use Rattle.col_csv_import.proofs.field_texts.field_at.Goals as goal

pub returns-in-Some : goal.returns-in-Some
returns-in-Some c = field-some (fields_of c.args.fields.now) c.args.place c.in-Some.field.now c.in-Some.ensures.value

pub returns-in-None : goal.returns-in-None
returns-in-None c = field-missing (fields_of c.args.fields.now) c.args.place c.in-None.ensures.value
