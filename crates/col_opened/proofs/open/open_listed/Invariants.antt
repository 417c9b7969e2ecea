use Rattle.std.proofs.Common.{◌≡◌, length, map}
use Rattle.std.specs.Vec.Iter.{into_iter_items, into_iter_len}
use Rattle.col_opened.specs.Opened.{column_of}
use Rattle.col_opened.proofs.OpenLemmas.{OpensFrom}
use Rattle.col_opened.proofs.open.open_listed.Given as goal

abbrev pub invariant-loop-name : goal.invariant-loop-name
invariant-loop-name g l =
    OpensFrom l.fn.listed.items l.fn.reader l.reader (into_iter_items l.name-iterator) (map column_of l.columns.items)
    × (into_iter_len l.name-iterator ≡ length (into_iter_items l.name-iterator))
