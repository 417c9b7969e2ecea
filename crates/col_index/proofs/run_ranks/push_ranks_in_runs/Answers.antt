use Rattle.std.proofs.Common.{◌≡◌, ◌<◌, ◌≤◌, ◌++◌, List, ℕ, length, get_or, map, take, sym, ap, subst, ◌∙◌, arith}
use Rattle.std.proofs.Math.Seq.{take-length}
use Rattle.col_model.specs.Positions.{rank}
use Rattle.col_index.specs.Sets.{held}
use Rattle.col_index.specs.RunPlaces.{IsRowOf}
use Rattle.col_index.proofs.PushLemmas.{pushes-stopped_later, pushes-later}
use Rattle.col_index.proofs.RunPushLemmas.{row_of, row_free, part_pushed, part_ranked, held_free}
use Rattle.col_index.proofs.run_ranks.push_ranks_in_runs.Goals as goal

pub returns-in_err-push_rows_of : goal.returns-in_err-push_rows_of
returns-in_err-push_rows_of c =
    pushes-stopped_later _ _ _ c.from_residual.ensures.1 c.loop-at.invariant.docs c.loop-at.invariant.rows
    c.in_err-push_rows_of.ensures.err

pub loop-at-preserved-then-has_row-2 : goal.loop-at-preserved-then-has_row-2
loop-at-preserved-then-has_row-2 c =
    let rows = c.args.runs.now.rows in
    let docs = c.args.docs.now in
    let l = c.loop-at in
    let i = l.invariant in
    let within : l.at ≤ length docs = omega (arith, c.loop-at-test.true) in
    let run = c.seek.new.place.run in
    let here = row_of run (get_or docs l.at 0) (sym c.has_row-in-loop-at.ensures ∙ c.if-has_row-2.true) in
    record {
      place = c.seek.ensures.place;
      order = omega arith;
      some = λ k h m.
          let same : l.at ≡ k = omega (arith, h, m) in
          subst (λ j. IsRowOf (get_or docs j 0) run) same here;
      docs =
          part_pushed rows l.place i.place docs l.from l.at i.order within i.some _ _ _ i.docs c.in_ok-push_rows_of.ensures.docs;
      rows =
          part_ranked rows l.place i.place docs l.from l.at i.order within i.some _ _ _ i.rows c.in_ok-push_rows_of.ensures.rows;
    }

pub loop-at-preserved : goal.loop-at-preserved
loop-at-preserved c =
    let rows = c.args.runs.now.rows in
    let docs = c.args.docs.now in
    let l = c.loop-at in
    let i = l.invariant in
    let within : l.at ≤ length docs = omega (arith, c.loop-at-test.true) in
    let free = row_free rows c.seek.new.place c.seek.ensures.place (get_or docs l.at 0) c.seek.ensures.near
    (sym c.has_row-in-loop-at.ensures ∙ c.if-has_row-2.false) in
    let same = held_free rows docs l.at c.loop-at-test.true free in
    record {
      place = c.seek.ensures.place;
      order = omega arith;
      some = λ k h m. absurd (omega (arith, h, m));
      docs =
          part_pushed rows l.place i.place docs l.from l.at i.order within i.some _ _ _ i.docs c.in_ok-push_rows_of.ensures.docs
          ∙ ap (λ (xs : List ℕ). c.args.docs_out.now.items ++ xs) same;
      rows =
          part_ranked rows l.place i.place docs l.from l.at i.order within i.some _ _ _ i.rows c.in_ok-push_rows_of.ensures.rows
          ∙ ap (λ (xs : List ℕ). c.args.rows_out.now.items ++ map (rank rows) xs) same;
    }

pub returns : goal.returns
returns c =
    let rows = c.args.runs.now.rows in
    let docs = c.args.docs.now in
    let l = c.loop-at in
    let i = l.invariant in
    let order : l.from ≤ length docs = omega (arith, i.order, c.loop-at-test.false, l.auto.at-end) in
    let within : length docs ≤ length docs = omega arith in
    let some : (k : ℕ) → l.from ≤ k → k < length docs → IsRowOf (get_or docs k 0) l.place.run =
    λ k h m. i.some k h (omega (arith, m, c.loop-at-test.false)) in
    let all : take (length docs) docs ≡ docs = take-length docs in
    pushes-later _ _ c.push_rows_of-2.result c.push_rows_of-2.ensures i.docs i.rows
    (λ n. part_pushed rows l.place i.place docs l.from (length docs) order within some _ _ _ i.docs n
    ∙ ap (λ (xs : List ℕ). c.args.docs_out.now.items ++ held rows xs) all)
    (λ n. part_ranked rows l.place i.place docs l.from (length docs) order within some _ _ _ i.rows n
    ∙ ap (λ (xs : List ℕ). c.args.rows_out.now.items ++ map (rank rows) (held rows xs)) all)
