-- Queries as steps: each puts a query on a stack, or changes those on top.
use Rattle.std.specs.Prelude.{◌≡◌, pos, negsuc, ◌^◌, ◌-◌, ◌&&◌, int_le, int_lt, IsTrue, Bool, true, false, List, [], ◌∷◌, ◌++◌, Option, Some, None, string_bytes}
use Rattle.std.specs.List.{list_all}
use Rattle.serde_json.specs.Data.{Data}
use Rattle.col_common.specs.Reading.{◌>>=◌}
use Rattle.col_model.specs.ColumnType.{ColumnType}
use Rattle.col_model.specs.ColumnType as types
use Rattle.col_types.specs.Kinds.{kind_of}
use Rattle.col_program.specs.Queries.{End, as_end, num, addr, term, Query, all, has, range, none_of, each_of, some_of, Queries, no_queries, query}
use Rattle.col_questions.specs.declared.query_value.QueryValue.{QueryValue}
use Rattle.col_questions.specs.declared.query_value.QueryValue.TheVariants as values
use Rattle.col_questions.specs.declared.step.Step.{Step}
use Rattle.col_questions.specs.declared.step.Step.TheVariants as steps
use Rattle.col_questions.specs.declared.step.Joint.{Joint}
use Rattle.col_questions.specs.declared.step.Joint.TheVariants as joints

-- the end
abbrev pub end_of : QueryValue → End
end_of (values.Num z) = num z
end_of (values.Addr n) = addr n
end_of (values.Term s) = term s

-- the end is a value of the type
abbrev pub is_end_of : ColumnType → End → Bool
is_end_of types.i64 (num z) = int_le (negsuc (2 ^ 63 - 1)) z && int_lt z (pos (2 ^ 63))
is_end_of types.datetime (num z) = int_le (negsuc (2 ^ 63 - 1)) z && int_lt z (pos (2 ^ 63))
is_end_of types.u64 (num z) = int_le (pos 0) z && int_lt z (pos (2 ^ 64))
is_end_of types.bool (num z) = int_le (pos 0) z && int_lt z (pos 2)
is_end_of types.ip (addr n) = true
is_end_of types.str (term s) = true
is_end_of types.bytes (term s) = true
is_end_of t e = false

-- the end is the bytes of a term
abbrev pub is_term : End → Bool
is_term (term s) = true
is_term (num z) = false
is_term (addr n) = false

-- the ends of a step are values of its type
abbrev pub has_ends : Step → Bool
has_ends (steps.Range name t lo hi) =
    is_end_of (kind_of t) (end_of lo) && is_end_of (kind_of t) (end_of hi)
has_ends steps.All = true
has_ends (steps.Has name t) = true
has_ends steps.Not = true
has_ends (steps.Begin j) = true
has_ends (steps.Join j) = true

-- a query behind others
abbrev pub queries_with : Queries → Query → Queries
queries_with no_queries q = query q no_queries
queries_with (query p ps) q = query p (queries_with ps q)

-- queries behind others
abbrev pub queries_and : Queries → Queries → Queries
queries_and no_queries qs = qs
queries_and (query p ps) qs = query p (queries_and ps qs)

-- the query of these members
abbrev pub of_joint : Joint → Queries → Query
of_joint joints.And qs = each_of qs
of_joint joints.Or qs = some_of qs

-- a query with a member more, where it is of this joint
abbrev pub joined : Joint → Query → Query → Option Query
joined joints.And q (each_of qs) = Some (each_of (queries_with qs q))
joined joints.Or q (some_of qs) = Some (some_of (queries_with qs q))
joined j q p = None

-- the stack behind a step, the top first
abbrev pub step_taken : Step → List Query → Option (List Query)
step_taken steps.All qs = Some (all ∷ qs)
step_taken (steps.Has name t) qs = Some (has (string_bytes name) (kind_of t) ∷ qs)
step_taken (steps.Range name t lo hi) qs =
    Some (range (string_bytes name) (kind_of t) (end_of lo) (end_of hi) ∷ qs)
step_taken steps.Not (q ∷ qs) = Some (none_of q ∷ qs)
step_taken steps.Not [] = None
step_taken (steps.Begin j) qs = Some (of_joint j no_queries ∷ qs)
step_taken (steps.Join j) (q ∷ p ∷ qs) = joined j q p >>= λ r. Some (r ∷ qs)
step_taken (steps.Join j) (q ∷ []) = None
step_taken (steps.Join j) [] = None

-- the stack behind steps
abbrev pub steps_taken : List Step → List Query → Option (List Query)
steps_taken [] qs = Some qs
steps_taken (s ∷ ss) qs = step_taken s qs >>= steps_taken ss

-- the query that is left of steps, and all documents where none is
abbrev pub query_left : Option (List Query) → Query
query_left None = all
query_left (Some []) = all
query_left (Some (q ∷ qs)) = q

abbrev pub tree_of : List Step → Query
tree_of ss = query_left (steps_taken ss [])

-- Steps that leave just one query, whose ends are values of their types.
pub record AreSteps (ss : List Step) : Type 0 where
  pub built : steps_taken ss [] ≡ Some (tree_of ss ∷ [])
  pub ends : IsTrue (list_all has_ends ss)

-- Steps were put behind others, which put the query on top of any stack.
pub record PutsQuery (old new : List Step) (q : Query) : Type 0 where
  pub more : List Step
  pub is : new ≡ old ++ more
  pub takes : (qs : List Query) → steps_taken more qs ≡ Some (q ∷ qs)
  pub ends : IsTrue (list_all has_ends more)

-- Steps were put behind others, which join each query to the one on top, of their joint.
pub record PutsMembers (j : Joint) (old new : List Step) (qs : Queries) : Type 0 where
  pub more : List Step
  pub is : new ≡ old ++ more
  pub takes : (ps : Queries) (below : List Query) →
      steps_taken more (of_joint j ps ∷ below) ≡ Some (of_joint j (queries_and ps qs) ∷ below)
  pub ends : IsTrue (list_all has_ends more)

-- the end is what the value of the type is read as
pub record IsEnd (t : ColumnType) (d : Data) (v : QueryValue) : Type 0 where
  pub is : as_end t d ≡ Some (end_of v)
  pub fits : IsTrue (is_end_of t (end_of v))
