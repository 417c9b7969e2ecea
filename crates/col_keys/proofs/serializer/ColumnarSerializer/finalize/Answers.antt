use Rattle.col_keys.proofs.EndLemmas.{file-put, columns-have_put, then-ok}
use Rattle.col_keys.proofs.serializer.ColumnarSerializer.finalize.Goals as goal

pub returns-clause-file : goal.returns-clause-file
returns-clause-file g c = λ start ps have. file-put start _ _ _ ps c.args.num_rows _ have c.serialize_end.ensures.ok

pub returns-clause-columns : goal.returns-clause-columns
returns-clause-columns g c =
    then-ok c.serialize_end.result c.serialize_end.ensures.short (λ short start ps have are. columns-have_put start
    _ c.args.self ps c.args.num_rows have are short c.ranges.num_rows.fits)
