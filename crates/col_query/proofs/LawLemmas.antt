-- Laws of queries.
use Rattle.std.proofs.Common.{◌≡◌, ℕ, Bool, true, false, not, ◌&&◌, ◌||◌, refl, sym, ap, ◌∙◌}
use Rattle.std.specs.List.{filter, range_with_len, list_any}
use Rattle.std.proofs.lemmas.List.Sorted.{list_any-IsPermutation}
use Rattle.col_model.specs.Table.{Table}
use Rattle.col_model.proofs.SharedTypes.{not-and}
use Rattle.col_program.specs.Queries.{Query, none_of, each_of, some_of, Queries, no_queries, query, holds, each_holds, some_holds, answer_of}
use Rattle.col_query.specs.Laws.{each_none, members, NotOfAnd, AndInAnyOrder}

and_not : (a b : Bool) → (a && not b) ≡ not (not a || b)
and_not true b = refl
and_not false b = refl

-- queries of which the same documents are have the same answer
same_answer : (t : Table) (q p : Query) → ((d : ℕ) → holds t q d ≡ holds t p d) → answer_of t q ≡ answer_of t p
unfolding answer_of
same_answer t q p each =
    let same : holds t q ≡ holds t p = λ i. λ d. each d i in
    ap (λ test. filter test (range_with_len 0 t.row_count)) same

some_none : (t : Table) (qs : Queries) (d : ℕ) → not (each_holds t qs d) ≡ some_holds t (each_none qs) d
some_none t no_queries d = refl
some_none t (query q qs) d =
    not-and (holds t q d) (each_holds t qs d) ∙ ap (λ b. not (holds t q d) || b) (some_none t qs d)

each_as_any : (t : Table) (qs : Queries) (d : ℕ) → each_holds t qs d ≡ not (list_any (λ q. not (holds t q d)) (members qs))
each_as_any t no_queries d = refl
each_as_any t (query q qs) d =
    ap (λ b. holds t q d && b) (each_as_any t qs d) ∙ and_not (holds t q d) (list_any (λ q. not (holds t q d)) (members qs))

-- what isn't of each of some queries isn't of some of them
pub not_of_and_lem : NotOfAnd
not_of_and_lem t qs = same_answer t (none_of (each_of qs)) (some_of (each_none qs)) (some_none t qs)

-- the order of the members doesn't matter
pub and_in_any_order_lem : AndInAnyOrder
and_in_any_order_lem t qs ps moved =
    same_answer t (each_of qs) (each_of ps) (λ d. each_as_any t qs d
    ∙ (ap not (list_any-IsPermutation (λ q. not (holds t q d)) (members qs) (members ps) moved)
    ∙ sym (each_as_any t ps d)))
