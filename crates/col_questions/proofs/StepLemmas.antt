-- Steps behind others.
use Rattle.std.proofs.Common.{◌≡◌, true, ◌&&◌, List, [], ◌∷◌, ◌++◌, Option, Some, None, IsSomeAnd, refl, sym, ap, ◌∙◌, subst, append_assoc}
use Rattle.std.specs.List.{list_all}
use Rattle.std.proofs.lemmas.List.{append-nil}
use Rattle.std.proofs.lemmas.List.Folds.{list_all-append}
use Rattle.col_common.specs.Reading.{◌>>=◌}
use Rattle.col_program.specs.Queries.{Query, none_of, Queries, no_queries, query}
use Rattle.col_questions.specs.Steps.{has_ends, queries_with, queries_and, of_joint, step_taken, steps_taken, query_left, tree_of, AreSteps, PutsQuery, PutsMembers}
use Rattle.col_questions.specs.declared.step.Step.{Step}
use Rattle.col_questions.specs.declared.step.Step.TheVariants as steps
use Rattle.col_questions.specs.declared.step.Joint.{Joint}
use Rattle.col_questions.specs.declared.step.Joint.TheVariants as joints

steps_from : (xs ys : List Step) (qs : List Query) → steps_taken (xs ++ ys) qs ≡ (steps_taken xs qs >>= steps_taken ys)
steps_from [] ys qs = refl
steps_from (x ∷ xs) ys qs = by (step_taken x qs) (steps_from xs ys)
  where
    by : (o : Option (List Query)) → ((ps : List Query) → steps_taken (xs ++ ys) ps ≡ (steps_taken xs ps >>= steps_taken ys))
        → (o >>= steps_taken (xs ++ ys)) ≡ ((o >>= steps_taken xs) >>= steps_taken ys)
    by None e = refl
    by (Some ps) e = e ps

-- steps behind others go on with the stack that these leave
steps_after : (xs ys : List Step) (qs ps : List Query) → steps_taken xs qs ≡ Some ps → steps_taken (xs ++ ys) qs ≡ steps_taken ys ps
steps_after xs ys qs ps e = steps_from xs ys qs ∙ ap (λ o. o >>= steps_taken ys) e

ends_after : (xs ys : List Step) → list_all has_ends xs ≡ true → list_all has_ends ys ≡ true → list_all has_ends (xs ++ ys) ≡ true
ends_after xs ys a b = list_all-append has_ends xs ys ∙ (ap (λ v. v && list_all has_ends ys) a ∙ b)

-- the step that turns a query over
pub puts_not : (old new : List Step) (q : Query) → PutsQuery old new q → PutsQuery old (new ++ steps.Not ∷ []) (none_of q)
puts_not old new q p = record {
  more = p.more ++ steps.Not ∷ [];
  is = ap (λ xs. xs ++ steps.Not ∷ []) p.is ∙ append_assoc old p.more (steps.Not ∷ []);
  takes = λ qs. steps_after p.more (steps.Not ∷ []) qs (q ∷ qs) (p.takes qs);
  ends = ends_after p.more (steps.Not ∷ []) p.ends refl;
}

-- no members
pub puts_none : (j : Joint) (old : List Step) → PutsMembers j old old no_queries
puts_none j old = record {
  more = [];
  is = sym (append-nil old);
  takes = λ ps below. ap (λ qs. Some (of_joint j qs ∷ below)) (and_none ps);
  ends = refl;
}
  where
    and_none : (ps : Queries) → ps ≡ queries_and ps no_queries
    and_none no_queries = refl
    and_none (query p ps) = ap (query p) (and_none ps)

with_last : (ps qs : Queries) (q : Query) → queries_with (queries_and ps qs) q ≡ queries_and ps (queries_with qs q)
with_last no_queries qs q = refl
with_last (query p ps) qs q = ap (query p) (with_last ps qs q)

join_taken : (j : Joint) (ps : Queries) (q : Query) (below : List Query)
    → steps_taken (steps.Join j ∷ []) (q ∷ of_joint j ps ∷ below) ≡ Some (of_joint j (queries_with ps q) ∷ below)
join_taken joints.And ps q below = refl
join_taken joints.Or ps q below = refl

-- a member more
pub puts_member : (j : Joint) (old mid new : List Step) (qs : Queries) (q : Query) → PutsMembers j old mid qs → PutsQuery mid new q
    → PutsMembers j old (new ++ steps.Join j ∷ []) (queries_with qs q)
puts_member j old mid new qs q m p =
    let join : List Step = steps.Join j ∷ [] in
    record {
      more = m.more ++ (p.more ++ join);
      is = ap (λ xs. xs ++ join) (p.is ∙ ap (λ xs. xs ++ p.more) m.is)
          ∙ (append_assoc (old ++ m.more) p.more join ∙ append_assoc old m.more (p.more ++ join));
      takes = λ ps below.
          let mine : Query = of_joint j (queries_and ps qs) in
          steps_after m.more (p.more ++ join) (of_joint j ps ∷ below) (mine ∷ below) (m.takes ps below)
          ∙ (steps_after p.more join (mine ∷ below) (q ∷ mine ∷ below) (p.takes (mine ∷ below))
          ∙ (join_taken j (queries_and ps qs) q below
          ∙ ap (λ rs. Some (of_joint j rs ∷ below)) (with_last ps qs q)));
      ends = ends_after m.more (p.more ++ join) m.ends (ends_after p.more join p.ends refl);
    }

-- all members behind the start of their query
pub puts_joint : (j : Joint) (old new : List Step) (qs : Queries) → PutsMembers j (old ++ steps.Begin j ∷ []) new qs
    → PutsQuery old new (of_joint j qs)
puts_joint j old new qs m = record {
  more = steps.Begin j ∷ m.more;
  is = m.is ∙ append_assoc old (steps.Begin j ∷ []) m.more;
  takes = λ below. m.takes no_queries below;
  ends = m.ends;
}

-- the steps of a query behind none are whole
pub steps_whole : (new : List Step) (q : Query) → PutsQuery [] new q → (tree_of new ≡ q) × AreSteps new
steps_whole new q p =
    let taken : steps_taken new [] ≡ Some (q ∷ []) = ap (λ xs. steps_taken xs []) p.is ∙ p.takes [] in
    let built : tree_of new ≡ q = ap query_left taken in (
      built,
      record {
        built = taken ∙ ap (λ r. Some (r ∷ [])) (sym built);
        ends = ap (list_all has_ends) p.is ∙ p.ends;
      },
    )

-- the steps of a query that was read behind none are whole
pub read_whole : (o : Option Query) (old new : List Step) → old ≡ [] → IsSomeAnd o (PutsQuery old new)
    → (o ≡ Some (tree_of new)) × AreSteps new
read_whole None old new e h = absurd h
read_whole (Some q) old new e p =
    let P : List Step → Type 0 = λ xs. PutsQuery xs new q in
    let w = steps_whole new q (subst P e p) in
    (ap Some (sym w.0), w.1)
