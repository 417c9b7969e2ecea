use Rattle.col_writer_rows.proofs.DocRowLemmas.{IsWalked}
use Rattle.col_writer_rows.proofs.doc_rows.rows_of_docs.Given as goal

-- the rows and the starts of the documents so far
abbrev pub invariant-loop-place : goal.invariant-loop-place
invariant-loop-place l = IsWalked l.num_rows l.docs l.rows.items l.starts.items l.place l.next
