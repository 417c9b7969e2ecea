use Rattle.std.proofs.Common.{◌≡◌, drop}
use Rattle.col_front.proofs.RiseLemmas.{rise_from}
use Rattle.col_front.proofs.asked.rise_below.Given as goal

-- what is left rises from the next that may come as all of them do
abbrev pub invariant-loop-doc : goal.invariant-loop-doc
invariant-loop-doc l = rise_from l.next l.count (drop l.doc-index l.docs) ≡ rise_from 0 l.count l.docs
