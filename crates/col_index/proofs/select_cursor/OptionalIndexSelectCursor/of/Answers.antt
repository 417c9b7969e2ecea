use Rattle.col_index.proofs.select_cursor.OptionalIndexSelectCursor.of.Goals as goal

pub invariant_of-result : goal.invariant_of-result
invariant_of-result c = c.none.ensures c.args.index.now.rows
