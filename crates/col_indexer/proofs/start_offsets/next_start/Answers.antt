use Rattle.std.proofs.Common.{◌≡◌, ℕ, ◌+◌, ◌-◌, List, ◌∷◌, drop, slice_get, refl, sym, ap, ◌∙◌, arith}
use Rattle.std.proofs.lemmas.List.{drop_all}
use Rattle.std.proofs.lemmas.Option.{slice_get_within}
use Rattle.col_index.specs.MultiValues.{value_counts_of}
use Rattle.col_index.proofs.RankLaws.{slice_get-none}
use Rattle.col_model.specs.Positions.{starts_of}
use Rattle.col_indexer.proofs.ChangeLemmas.{next-item}
use Rattle.col_indexer.proofs.CountedLemmas.{starts_of-ends, length-rows_with_value}
use Rattle.col_indexer.proofs.StackedOffsetLemmas.{first_start, next_start}
use Rattle.col_indexer.proofs.StackedStartLemmas.{length-starts}
use Rattle.col_indexer.proofs.start_offsets.next_start.Goals as goal

-- the first start is 0
first : (cs : List ℕ) (place : ℕ) → place ≡ 0 → drop place (starts_of cs) ≡ 0 ∷ drop 1 (starts_of cs)
first cs place z =
    ap (λ n. drop n (starts_of cs)) z
    ∙ starts_of-ends cs ∙ ap (λ starts. 0 ∷ drop 1 starts) (sym (starts_of-ends cs))

pub returns-then-at-eq0-clause-stands : goal.returns-then-at-eq0-clause-stands
returns-then-at-eq0-clause-stands c =
    first_start (value_counts_of c.args.index.now) c.args.at.now _ c.requires c.if-at-eq0.true refl refl

pub returns-then-at-eq0-clause-value : goal.returns-then-at-eq0-clause-value
returns-then-at-eq0-clause-value c = first (value_counts_of c.args.index.now) c.args.at.now.place c.if-at-eq0.true

pub overflow_add-at : goal.overflow_add-at
overflow_add-at c =
    let cs = value_counts_of c.args.index.now in
    let inside = slice_get_within (starts_of cs) (c.args.at.now.place - 1 + 1) c.in-Some.end (sym c.in-Some.ensures.end) in
    omega (arith, inside, length-starts cs, length-rows_with_value cs, c.num_docs-num_docs.ensures)

pub returns-in-Some-clause-stands : goal.returns-in-Some-clause-stands
returns-in-Some-clause-stands c =
    let cs = value_counts_of c.args.index.now in
    let here : c.args.at.now.place ≡ c.args.at.now.place - 1 + 1 = omega (arith, c.if-at-eq0.false) in
    next_start cs c.args.at.now _ c.in-Some.behind c.in-Some.end c.in-Some.ensures.hint
    (ap (slice_get (starts_of cs)) here ∙ sym c.in-Some.ensures.end) (omega (arith, c.if-at-eq0.false)) refl c.from-at.ensures

pub returns-in-Some-clause-value : goal.returns-in-Some-clause-value
returns-in-Some-clause-value c =
    let here : c.args.at.now.place ≡ c.args.at.now.place - 1 + 1 = omega (arith, c.if-at-eq0.false) in
    let starts = starts_of (value_counts_of c.args.index.now) in
    next-item c.args.at.now.place c.in-Some.end starts (ap (slice_get starts) here ∙ sym c.in-Some.ensures.end)

pub returns-in-None-clause-value : goal.returns-in-None-clause-value
returns-in-None-clause-value c =
    let here : c.args.at.now.place ≡ c.args.at.now.place - 1 + 1 = omega (arith, c.if-at-eq0.false) in
    let starts = starts_of (value_counts_of c.args.index.now) in
    let past = slice_get-none starts c.args.at.now.place (ap (slice_get starts) here ∙ sym c.in-None.ensures.end) in
    let none = drop_all c.args.at.now.place starts (omega (arith, past)) in
    (none, none)
