use Rattle.std.proofs.Common.{map}
use Rattle.col_documents.specs.Forms.{named_form}
use Rattle.col_documents.proofs.DocumentLemmas.{member_part}
use Rattle.col_documents.proofs.JoinedLemmas.{HavePut}
use Rattle.col_documents.proofs.document.+value.Given as goal

-- the fields of the members that were passed are put
abbrev pub invariant-push_members-loop-member : goal.invariant-push_members-loop-member
invariant-push_members-loop-member l =
    HavePut (member_part (map named_form l.forms) l.front) l.member-items l.member-index l.initial.fields.items l.fields.items
