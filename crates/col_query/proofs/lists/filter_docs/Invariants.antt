use Rattle.std.proofs.Common.{◌≡◌, take}
use Rattle.std.specs.List.{filter}
use Rattle.col_common.specs.Flags.{flag_at}
use Rattle.col_query.specs.Sets.{turn_over}
use Rattle.col_query.proofs.lists.filter_docs.Given as goal

-- what passes of the documents that were passed
abbrev pub invariant-loop-doc : goal.invariant-loop-doc
invariant-loop-doc l = l.found.items ≡ filter (λ d. turn_over l.to_turn (flag_at l.words d)) (take l.doc-index l.docs)
