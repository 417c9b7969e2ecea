-- Steps that are taken one after another.
use Rattle.std.proofs.Common.{◌≡◌, ℕ, ◌<◌, List, [], ◌∷◌, ◌++◌, length, Option, Some, None, Result, IfOk, refl, sym, ap, ◌∙◌, subst}
use Rattle.std.specs.declared.alloc.AllocError.{AllocError}
use Rattle.std.proofs.lemmas.Option.{same_Some}
use Rattle.col_common.specs.Reading.{◌>>=◌}
use Rattle.col_model.specs.Keys.{FileKeys}
use Rattle.col_model.specs.Table.{Table}
use Rattle.col_model.proofs.SharedTypes.{some≢none}
use Rattle.col_opened.specs.Opened.{AreOpen}
use Rattle.col_opened.specs.declared.open_columns.OpenColumns.{OpenColumns}
use Rattle.col_program.specs.Queries.{Query, holds, answer_of}
use Rattle.col_query.specs.Sets.{docs_where, IsSetOf}
use Rattle.col_query.specs.Stacks.{AreSetsOf}
use Rattle.col_query.specs.declared.doc_set.DocSet.{DocSet}
use Rattle.col_query.proofs.LeafLemmas.{ok_then}
use Rattle.col_query.proofs.StackLemmas.{taken_top, some_top}
use Rattle.col_questions.specs.Steps.{joined, step_taken, steps_taken}
use Rattle.col_questions.specs.declared.step.Step.{Step}
use Rattle.col_questions.specs.declared.step.Step.TheVariants as steps
use Rattle.col_questions.specs.declared.step.Joint.{Joint}

-- what a step of this form does is what the step does
pub taken-as : (s form : Step) (old : List Query) (new made : List Query) → s ≡ form → step_taken s old ≡ Some new
    → step_taken form old ≡ Some made → made ≡ new
taken-as s form old new made is e f = same_Some made new (sym f ∙ sym (ap (λ s. step_taken s old) is) ∙ e)

joined-then : (o : Option Query) (qs new : List Query) (R : List Query → Type 0) → ((r : Query) → o ≡ Some r → R (r ∷ qs))
    → (o >>= λ r. Some (r ∷ qs)) ≡ Some new → R new
joined-then None qs new R f e = absurd (some≢none new (sym e))
joined-then (Some r) qs new R f e = subst R (same_Some (r ∷ qs) new e) (f r refl)

-- a step that joins the two queries on top
pub join-taken : (s : Step) (j : Joint) (old new : List Query) (P R : List Query → Type 0) → s ≡ steps.Join j
    → ((q p r : Query) (qs : List Query) → P (q ∷ p ∷ qs) → joined j q p ≡ Some r → R (r ∷ qs))
    → P old → step_taken s old ≡ Some new → R new
join-taken s j old new P R is f has e = by old has (sym (ap (λ s. step_taken s old) is) ∙ e)
  where
    by : (old : List Query) → P old → step_taken (steps.Join j) old ≡ Some new → R new
    by [] has e = absurd (some≢none new (sym e))
    by (q ∷ []) has e = absurd (some≢none new (sym e))
    by (q ∷ p ∷ qs) has e = joined-then (joined j q p) qs new R (λ r same. f q p r qs has same) e

-- Sets stand for queries of which the steps that are left make one.
pub record LeavesQuery (t : Table) (left : List Step) (q : Query) (sets : List DocSet) : Type 0 where
  pub stack : List Query
  pub are : AreSetsOf t stack sets
  pub takes : steps_taken left stack ≡ Some (q ∷ [])

-- the same of each table whose columns are open
abbrev pub Leaves : FileKeys → OpenColumns → List Step → Query → List DocSet → Type 0
Leaves k columns left q sets = (t : Table) → AreOpen k t columns → LeavesQuery t left q sets

step-then : (t : Table) (s : Step) (ss : List Step) (q : Query) (qs : List Query) (new : List DocSet) (o : Option (List Query))
    → step_taken s qs ≡ o → (o >>= steps_taken ss) ≡ Some (q ∷ [])
    → ((made : List Query) → step_taken s qs ≡ Some made → AreSetsOf t made new) → LeavesQuery t ss q new
step-then t s ss q qs new None same e f = absurd (some≢none (q ∷ []) (sym e))
step-then t s ss q qs new (Some made) same e f = record { stack = made; are = f made same; takes = e }

-- behind a step
pub leaves-next : (k : FileKeys) (columns : OpenColumns) (s : Step) (ss : List Step) (q : Query) (old new : List DocSet)
    → Leaves k columns (s ∷ ss) q old
    → ((t : Table) (before after : List Query) → AreOpen k t columns → AreSetsOf t before old
    → step_taken s before ≡ Some after → AreSetsOf t after new)
    → Leaves k columns ss q new
leaves-next k columns s ss q old new leaves taken t opened =
    let l = leaves t opened in
    step-then t s ss q l.stack new (step_taken s l.stack) refl l.takes (λ made e. taken t l.stack made opened l.are e)

-- behind the last one, the set on top is that of the query
pub leaves-last : (k : FileKeys) (columns : OpenColumns) (q : Query) (sets left : List DocSet) (set : DocSet)
    → Leaves k columns [] q sets → sets ≡ left ++ set ∷ []
    → (t : Table) → AreOpen k t columns → IsSetOf t.row_count (holds t q) set
leaves-last k columns q sets left set leaves e t opened =
    let l = leaves t opened in
    let are : AreSetsOf t (q ∷ []) sets = subst (λ qs. AreSetsOf t qs sets) (same_Some l.stack (q ∷ []) l.takes) l.are in
    (taken_top t q [] sets left set are e).0

-- and there is one
pub leaves-some : (k : FileKeys) (columns : OpenColumns) (q : Query) (sets : List DocSet) → Leaves k columns [] q sets
    → (t : Table) → AreOpen k t columns → 0 < length sets
leaves-some k columns q sets leaves t opened =
    let l = leaves t opened in
    some_top t q [] sets (subst (λ qs. AreSetsOf t qs sets) (same_Some l.stack (q ∷ []) l.takes) l.are)

-- the documents of the set are the answer
pub listed-answer : {T : Type 0} (items : T → List ℕ) (t : Table) (q : Query) (n : ℕ) (r : Result T AllocError) → t.row_count ≡ n
    → IfOk r (λ docs. items docs ≡ docs_where (holds t q) n) → IfOk r (λ docs. items docs ≡ answer_of t q)
unfolding answer_of
listed-answer items t q n r same found =
    ok_then (λ docs. items docs ≡ docs_where (holds t q) n) (λ docs. items docs ≡ answer_of t q) r
    (λ docs e. e ∙ ap (docs_where (holds t q)) (sym same)) found
