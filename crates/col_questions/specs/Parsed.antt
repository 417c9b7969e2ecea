-- Words in front of other queries.
use Rattle.std.specs.Prelude.{Option, Some, None}
use Rattle.col_common.specs.Reading.{◌>>=◌}
use Rattle.col_program.specs.Queries.{Query, none_of, Queries}
use Rattle.col_questions.specs.Steps.{of_joint}
use Rattle.col_questions.specs.declared.parse.Prefix.{Prefix}
use Rattle.col_questions.specs.declared.parse.Prefix.TheVariants as prefixes

-- the query of a word and its part, which is a query or a list of queries
abbrev pub joined_by : Option Prefix → Option Query → Option Queries → Option Query
joined_by None q qs = None
joined_by (Some prefixes.Not) q qs = q >>= λ q. Some (none_of q)
joined_by (Some (prefixes.Members j)) q qs = qs >>= λ qs. Some (of_joint j qs)
