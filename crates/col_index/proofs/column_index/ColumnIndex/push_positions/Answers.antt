use Rattle.col_index.proofs.PositionLemmas.{empty-docs, empty-positions, full-docs, full-positions}
use Rattle.col_index.proofs.column_index.ColumnIndex.push_positions.Goals as goal

pub returns-in-Empty : goal.returns-in-Empty
returns-in-Empty c = rw c.in-Empty.is (record {
  docs = empty-docs c.in-Empty.num_docs c.args.doc_ids.now c.args.doc_ids_out.now.items;
  rows = empty-positions c.in-Empty.num_docs c.args.doc_ids.now c.args.row_ids.now.items;
  err = tt;
})

pub returns-in_ok-extend_from_slice-in-Full-2 : goal.returns-in_ok-extend_from_slice-in-Full-2
returns-in_ok-extend_from_slice-in-Full-2 c = rw (c.in-Full.is, full-docs c.args.doc_ids.now, full-positions c.args.doc_ids.now) (record {
  docs = c.in_ok-extend_from_slice-in-Full.ensures.items;
  rows = c.in_ok-extend_from_slice-in-Full-2.ensures.items;
  err = tt;
})
