use Rattle.col_csv_import.proofs.ReadingLemmas.{reader-few, reader-left}
use Rattle.col_csv_import.proofs.records.reader_of.Goals as goal

pub returns-clause-left : goal.returns-clause-left
returns-clause-left c =
    reader-left c.from_reader.result c.args.text.now c.from_reader.ensures.source c.from_reader.ensures.state

pub returns-clause-many : goal.returns-clause-many
returns-clause-many c = reader-few c.from_reader.result c.args.text.now c.from_reader.ensures.source
