-- Laws of queries.
use Rattle.std.specs.Prelude.{◌≡◌, List, [], ◌∷◌}
use Rattle.std.specs.List.Sorted.{IsPermutation}
use Rattle.col_model.specs.Table.{Table}
use Rattle.col_program.specs.Queries.{Query, none_of, each_of, some_of, Queries, no_queries, query, answer_of}

-- each query turned over
abbrev pub each_none : Queries → Queries
each_none no_queries = no_queries
each_none (query q qs) = query (none_of q) (each_none qs)

-- the queries as a list
abbrev pub members : Queries → List Query
members no_queries = []
members (query q qs) = q ∷ members qs

-- What isn't of each of some queries isn't of some of them.
abbrev pub NotOfAnd : Type 0
NotOfAnd = (t : Table) (qs : Queries)
    → answer_of t (none_of (each_of qs)) ≡ answer_of t (some_of (each_none qs))

-- The order of the members doesn't matter.
abbrev pub AndInAnyOrder : Type 0
AndInAnyOrder = (t : Table) (qs ps : Queries) → IsPermutation (members qs) (members ps)
    → answer_of t (each_of qs) ≡ answer_of t (each_of ps)
