-- Sets of documents on a stack.
use Rattle.std.specs.Prelude.{◌≡◌, ◌&&◌, ◌||◌, Bool, List, [], ◌∷◌, ◌++◌}
use Rattle.col_model.specs.Table.{Table}
use Rattle.col_program.specs.Queries.{Query, holds}
use Rattle.col_query.specs.Sets.{IsSetOf}
use Rattle.col_query.specs.declared.doc_set.DocSet.{DocSet}
use Rattle.col_questions.specs.declared.step.Joint.{Joint}
use Rattle.col_questions.specs.declared.step.Joint.TheVariants as joints

-- whether a document is of two queries, by their joint
abbrev pub joint_holds : Joint → Bool → Bool → Bool
joint_holds joints.And a b = a && b
joint_holds joints.Or a b = a || b

-- The sets of a stack, the top last, are the documents of queries, the top first.
abbrev pub AreSetsOf : Table → List Query → List DocSet → Type 0
AreSetsOf t [] sets = sets ≡ []
AreSetsOf t (q ∷ qs) sets = (top : DocSet) × (below : List DocSet) × (sets ≡ below ++ top ∷ [])
    × IsSetOf t.row_count (holds t q) top × AreSetsOf t qs below
