use Rattle.col_documents.proofs.DocumentLemmas.{item_part}
use Rattle.col_documents.proofs.JoinedLemmas.{HavePut}
use Rattle.col_documents.proofs.document.push_items.Given as goal

-- the fields of the items that were passed are put
abbrev pub invariant-loop-item : goal.invariant-loop-item
invariant-loop-item l = HavePut (item_part l.form l.path) l.item-items l.item-index l.initial.fields.items l.fields.items
