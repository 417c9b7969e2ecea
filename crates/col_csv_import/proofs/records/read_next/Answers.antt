use Rattle.csv.specs.Reading.{error_kind}
use Rattle.csv.specs.Records.{fields_of}
use Rattle.col_csv_import.proofs.ReadingLemmas.{read-answered, read-refused}
use Rattle.col_csv_import.proofs.records.read_next.Goals as goal

pub returns-in-Ok : goal.returns-in-Ok
returns-in-Ok c =
    let e = c.in-Ok.ensures in
    read-answered c.args.reader.now c.read_byte_record.new.self (fields_of c.read_byte_record.new.row) c.in-Ok.found c.requires
    e.reads e.ready e.flexible e.goes

pub returns-in-Err : goal.returns-in-Err
returns-in-Err c =
    read-refused c.args.reader.now c.read_byte_record.new.self (fields_of c.read_byte_record.new.row) (error_kind c.in-Err.error)
    c.kind.result.now c.refusal_of.result c.requires c.kind.ensures c.refusal_of.ensures c.in-Err.ensures.why
