use Rattle.col_writer_file.proofs.OutcomeLemmas.{past-told}
use Rattle.col_writer_file.proofs.named_entry.NamedEntry.has_doc_past.Goals as goal

pub returns : goal.returns
returns c = past-told c.args.num_docs c.docs.result.now c.args.self.now c.is_past.result c.is_past.ensures c.docs.ensures
