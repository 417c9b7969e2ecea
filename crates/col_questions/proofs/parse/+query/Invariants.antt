use Rattle.std.proofs.Common.{take}
use Rattle.col_questions.proofs.ParseLemmas.{HavePut}
use Rattle.col_questions.proofs.parse.+query.Given as goal

-- the items that were passed are put
abbrev pub invariant-push_all_members-loop-member : goal.invariant-push_all_members-loop-member
invariant-push_all_members-loop-member l =
    HavePut l.joint (take l.member-index l.member-items) l.initial.steps.items l.steps.items
