use Rattle.std.proofs.Common.{◌≡◌, ◌-◌, ◌+◌, ◌++◌}
use Rattle.col_common.specs.Flags.{flags_of, members_from, members}
use Rattle.col_query.proofs.words.docs_of_words.Given as goal

-- what was found, and what is left, are all that are set
abbrev pub invariant-loop-doc : goal.invariant-loop-doc
invariant-loop-doc l =
    l.docs.items ++ members_from (flags_of l.words l.num_docs) l.at ≡ members (flags_of l.words l.num_docs)

abbrev pub decreases-loop-doc : goal.decreases-loop-doc
decreases-loop-doc l = l.num_docs + 1 - l.at
