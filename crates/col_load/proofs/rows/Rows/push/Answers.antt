use Rattle.std.proofs.Common.{◌+◌, map, refl}
use Rattle.col_documents.specs.Read.{field_read}
use Rattle.col_load.proofs.RowLemmas.{document_taken}
use Rattle.col_load.proofs.rows.Rows.push.Goals as goal

pub returns : goal.returns
returns c =
    λ docs had. document_taken docs (map field_read c.args.fields.now) c.args.self.now record {
      columns = c.record_behind.new.columns;
      num_docs = c.args.self.now.num_docs + 1;
      refusal = c.record_behind.new.refusal;
      too_many = c.args.self.now.too_many;
    } had c.if-self.false c.in_ok-record_behind.ensures refl refl
