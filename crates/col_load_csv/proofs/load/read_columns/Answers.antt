use Rattle.std.proofs.Common.{map, ap, ◌∙◌}
use Rattle.csv.specs.Records.{fields_of}
use Rattle.col_documents.specs.Forms.{named_form}
use Rattle.col_load_csv.specs.Documents.{decided}
use Rattle.col_load_csv.specs.Read.{column_read}
use Rattle.col_load_csv.specs.Readers.{left_of}
use Rattle.col_load_csv.proofs.LoadedLemmas.{header_found}
use Rattle.col_load_csv.proofs.ReaderLemmas.{found_some}
use Rattle.col_load_csv.proofs.load.read_columns.Goals as goal

pub returns-clause-ok : goal.returns-clause-ok
returns-clause-ok c =
    let old = c.reader_of-reader.result in
    let new = c.read_next.new.reader in
    let names = fields_of c.read_next.new.row in
    let most = c.most_records-most.result in
    header_found c.args.text.now old c.reader_of-reader.ensures.left (map named_form c.args.forms.now) new names
    (found_some old new names c.in_ok-read_next.field-0 c.if-not-branch.false c.in_ok-read_next.ensures)
    c.in-Some.columns.items c.in_ok-columns-2.columns.items most c.most_records-most.ensures
    (rw c.in-Some.is at c.in_ok-columns.ensures)
    (c.in_ok-columns-2.ensures ∙ ap (λ cs. decided (map column_read cs) (left_of most new)) c.deref.ensures.value)
