use Rattle.std.proofs.Common.{ℕ, ◌≡◌, ◌+◌, ◌-◌, ◌<◌, [], ◌∷◌, ◌++◌, length, drop, get_or, sym, ap, ◌∙◌, arith}
use Rattle.col_model.proofs.RowRunTests.{runs_from, are_runs-first}
use Rattle.col_numbers.specs.Readers.{list_of}
use Rattle.col_index.specs.Runs.{sums_from}
use Rattle.col_index.proofs.RunSumLemmas.{sum_pushed}
use Rattle.col_index.proofs.RunTakenLemmas.{run_taken}
use Rattle.col_index.proofs.RunGapLemmas.{gaps_none, gaps_more}
use Rattle.col_index.proofs.summed_runs.sum_runs.Goals as goal

pub loop-at-init : goal.loop-at-init
loop-at-init c =
    let starts = list_of c.args.starts.now in
    let lengths = list_of c.args.lengths.now in
    let none = c.in_ok-gaps.ensures.items in
    record {
      runs = are_runs-first c.args.num_rows starts lengths;
      sums = ap (λ before. before ++ sums_from 0 lengths) c.in_ok-before.ensures.items;
      gaps =
          gaps_none starts c.in_ok-before.before.items c.push.new.self.items c.in_ok-before.ensures.items
          (c.in_ok-push.ensures.items ∙ ap (λ gaps. gaps ++ 0 ∷ []) none);
      few = omega arith;
      next = omega arith;
    }

pub loop-at-preserved : goal.loop-at-preserved
loop-at-preserved c =
    let n = c.args.num_rows in
    let starts = list_of c.args.starts.now in
    let lengths = list_of c.args.lengths.now in
    let at = c.loop-at.at in
    let end = c.in-Some.end in
    let len = c.in-Some.len in
    let total = c.loop-at.total in
    let so_far = c.loop-at.invariant in
    let before = c.push-in-loop-at.new.self.items in
    let in_starts : at < length starts = omega arith in
    let in_lengths : at < length lengths = omega arith in
    let pair : ℕ × ℕ = (end, len) in
    let taken = run_taken n c.loop-at.next starts lengths at in_starts in_lengths pair c.in-Some.ensures in
    let gap : end - len - total + total ≡ get_or starts at 0 =
    omega (arith, taken.start_read, taken.behind, so_far.few) in
    record {
      runs =
          so_far.runs ∙ taken.rest
          ∙ ap (λ k. runs_from n (k + 1) (drop (at + 1) starts) (drop (at + 1) lengths)) (sym c.from-next.ensures);
      sums =
          ap (λ m. before ++ sums_from (total + m) (drop (at + 1) lengths)) taken.length_read
          ∙ sum_pushed total at c.loop-at.before.items before lengths (sums_from 0 lengths) in_lengths
          c.in_ok-push-2.ensures.items so_far.sums;
      gaps =
          gaps_more starts c.loop-at.before.items c.loop-at.gaps.items before c.push-in-loop-at-2.new.self.items at total
          (end - len - total) so_far.gaps c.in_ok-push-2.ensures.items c.in_ok-push-3.ensures.items gap;
      few = omega (arith, taken.behind, so_far.few, c.from-next.ensures);
      next = omega (arith, taken.within, c.from-next.ensures);
    }
