-- Sets of documents on a stack.
use Rattle.std.proofs.Common.{◌≡◌, ℕ, ◌<◌, Bool, true, false, ◌&&◌, ◌||◌, List, [], ◌∷◌, ◌++◌, length, length-append, Option, Some, None, refl, sym, ap, ◌∙◌, subst, arith}
use Rattle.col_model.specs.Table.{Table}
use Rattle.col_model.proofs.TestLaws.{and_regrouped}
use Rattle.col_program.specs.Queries.{Query, all, has, range, none_of, each_of, some_of, Queries, no_queries, query, holds, each_holds, some_holds}
use Rattle.col_query.specs.Sets.{turn_over, IsSetOf}
use Rattle.col_query.specs.Stacks.{joint_holds, AreSetsOf}
use Rattle.col_questions.specs.Steps.{queries_with, joined}
use Rattle.col_query.specs.declared.doc_set.DocSet.{DocSet}
use Rattle.col_questions.specs.declared.step.Joint.{Joint}
use Rattle.col_questions.specs.declared.step.Joint.TheVariants as joints
use Rattle.col_query.proofs.SetLemmas.{docs_agree}

-- a set by a test that agrees
pub set_agrees : (n : ℕ) (test other : ℕ → Bool) (s : DocSet) → ((d : ℕ) → d < n → test d ≡ other d) → IsSetOf n test s → IsSetOf n other s
set_agrees n test other s h is =
    docs_agree n (λ d. turn_over s.turned (test d)) (λ d. turn_over s.turned (other d)) s.docs
    (λ d below. ap (turn_over s.turned) (h d below)) is

and_true : (a : Bool) → (a && true) ≡ (true && a)
and_true true = refl
and_true false = refl

or_last : (a b c : Bool) → (a || (b || c)) ≡ ((a || b) || c)
or_last true b c = refl
or_last false b c = refl

or_false : (a : Bool) → (a || false) ≡ (false || a)
or_false true = refl
or_false false = refl

-- a member more
pub each_with : (t : Table) (qs : Queries) (q : Query) (d : ℕ) → each_holds t (queries_with qs q) d ≡ (each_holds t qs d && holds t q d)
each_with t no_queries q d = and_true (holds t q d)
each_with t (query p ps) q d =
    ap (λ b. holds t p d && b) (each_with t ps q d) ∙ and_regrouped (holds t p d) (each_holds t ps d) (holds t q d)

-- the same of queries of which some holds
pub some_with : (t : Table) (qs : Queries) (q : Query) (d : ℕ) → some_holds t (queries_with qs q) d ≡ (some_holds t qs d || holds t q d)
some_with t no_queries q d = or_false (holds t q d)
some_with t (query p ps) q d =
    ap (λ b. holds t p d || b) (some_with t ps q d) ∙ or_last (holds t p d) (some_holds t ps d) (holds t q d)

none_some : {A : Type 0} {x : A} → None ≡ Some x → ⊥
none_some e = cc

-- a query that is joined to the one below it
pub joined_holds : (t : Table) (j : Joint) (q p r : Query) → joined j q p ≡ Some r → (d : ℕ)
    → joint_holds j (holds t p d) (holds t q d) ≡ holds t r d
joined_holds t joints.And q (each_of qs) r e d =
    sym (each_with t qs q d) ∙ ap (λ o. holds_of t o d) e
  where
    holds_of : Table → Option Query → ℕ → Bool
    holds_of t None d = false
    holds_of t (Some q) d = holds t q d
joined_holds t joints.Or q (some_of qs) r e d =
    sym (some_with t qs q d) ∙ ap (λ o. holds_of t o d) e
  where
    holds_of : Table → Option Query → ℕ → Bool
    holds_of t None d = false
    holds_of t (Some q) d = holds t q d
joined_holds t joints.And q all r e d = absurd (none_some e)
joined_holds t joints.And q (has name kind) r e d = absurd (none_some e)
joined_holds t joints.And q (range name kind lo hi) r e d = absurd (none_some e)
joined_holds t joints.And q (none_of p) r e d = absurd (none_some e)
joined_holds t joints.And q (some_of ps) r e d = absurd (none_some e)
joined_holds t joints.Or q all r e d = absurd (none_some e)
joined_holds t joints.Or q (has name kind) r e d = absurd (none_some e)
joined_holds t joints.Or q (range name kind lo hi) r e d = absurd (none_some e)
joined_holds t joints.Or q (none_of p) r e d = absurd (none_some e)
joined_holds t joints.Or q (each_of ps) r e d = absurd (none_some e)

-- lists that are alike are so without their last items, and these are alike
pub last_of : {A : Type 0} (xs ys : List A) (x y : A) → xs ++ x ∷ [] ≡ ys ++ y ∷ [] → (xs ≡ ys) × (x ≡ y)
last_of [] [] x y e = (refl, cc)
last_of [] (z ∷ ys) x y e = absurd (omega (arith, ap length e, length-append ys (y ∷ [])))
last_of (z ∷ xs) [] x y e = absurd (omega (arith, ap length e, length-append xs (x ∷ [])))
last_of (z ∷ xs) (w ∷ ys) x y e =
    let first : z ≡ w = cc in
    let rest : xs ++ x ∷ [] ≡ ys ++ y ∷ [] = cc in
    let r = last_of xs ys x y rest in
    let front : xs ≡ ys = r.0 in (cc, r.1)

-- the set that is taken off a stack is that of the query on top
pub taken_top : (t : Table) (q : Query) (qs : List Query) (sets left : List DocSet) (set : DocSet) → AreSetsOf t (q ∷ qs) sets
    → sets ≡ left ++ set ∷ [] → IsSetOf t.row_count (holds t q) set × AreSetsOf t qs left
taken_top t q qs sets left set s e =
    let p = last_of s.1 left s.0 set (sym s.2 ∙ e) in
    let P : DocSet → Type 0 = IsSetOf t.row_count (holds t q) in
    let R : List DocSet → Type 0 = AreSetsOf t qs in
    (subst P p.1 s.3, subst R p.0 s.4)

-- a stack of queries has sets
pub some_top : (t : Table) (q : Query) (qs : List Query) (sets : List DocSet) → AreSetsOf t (q ∷ qs) sets → 0 < length sets
some_top t q qs sets s = omega (arith, ap length s.2, length-append s.1 (s.0 ∷ []))

-- a set of a joined query
pub joined_is : (t : Table) (n : ℕ) (j : Joint) (q p r : Query) (s : DocSet) → t.row_count ≡ n → joined j q p ≡ Some r
    → IsSetOf n (λ d. joint_holds j (holds t p d) (holds t q d)) s → IsSetOf t.row_count (holds t r) s
joined_is t n j q p r s same e is =
    let P : ℕ → Type 0 = λ m. IsSetOf m (holds t r) s in
    subst P (sym same) (set_agrees n (λ d. joint_holds j (holds t p d) (holds t q d)) (holds t r) s
    (λ d below. joined_holds t j q p r e d) is)
