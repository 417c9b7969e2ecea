use Rattle.col_load_csv.proofs.ReaderLemmas.{all_left}
use Rattle.col_load_csv.proofs.records.reader_of.Goals as goal

pub returns-clause-left : goal.returns-clause-left
returns-clause-left c =
    all_left c.from_reader.result c.args.text.now c.from_reader.ensures.source c.from_reader.ensures.state
