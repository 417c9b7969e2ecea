use Rattle.std.proofs.Common.{◌≡◌, map, get_or}
use Rattle.std.specs.List.{range_with_len}
use Rattle.col_writer_columns.specs.Sorting.{turned}
use Rattle.col_writer_columns.proofs.sort_order.numbered.Given as goal

abbrev pub invariant-loop-doc : goal.invariant-loop-doc
invariant-loop-doc l = l.pairs.items ≡ map (λ d. (turned l.fn.reversed (get_or l.fn.firsts d 0), d)) (range_with_len 0 l.doc)
