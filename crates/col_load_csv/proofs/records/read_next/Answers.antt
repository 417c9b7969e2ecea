use Rattle.csv.specs.Records.{fields_of}
use Rattle.col_load_csv.proofs.ReaderLemmas.{read_answered}
use Rattle.col_load_csv.proofs.records.read_next.Goals as goal

pub returns-in-Ok : goal.returns-in-Ok
returns-in-Ok c =
    let e = c.in-Ok.ensures in
    read_answered c.args.reader.now c.read_byte_record.new.self (fields_of c.read_byte_record.new.row) c.requires c.in-Ok.found
    (e.reads c.requires.trim c.requires.ready) (e.ready c.requires.trim) e.flexible e.goes
