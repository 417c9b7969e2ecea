use Rattle.std.proofs.Common.{◌≡◌, ◌+◌, slice_index, take, subst, ◌∙◌, refl, arith}
use Rattle.std.proofs.lemmas.List.{length-set}
use Rattle.col_common.specs.Ascending.{differences}
use Rattle.col_model.specs.Index.{run_rows}
use Rattle.col_index.specs.Ranks.{HasFlags}
use Rattle.col_index.proofs.RunBitLemmas.{row_of_run_below, run_spans}
use Rattle.col_index.proofs.RunMaskLemmas.{flags_run}
use Rattle.col_index.proofs.run_bits.set_run.Goals as goal

pub loop-inside-init : goal.loop-inside-init
loop-inside-init c =
    let rows = run_rows c.args.starts.now.rows (differences c.args.before.now) in
    let first : slice_index c.args.before.now c.args.number ≡ c.run_at-run.result.before + 0 = omega (arith, c.run_at-run.ensures.before) in
    record {
      upto = omega arith;
      long = refl;
      flags = subst (λ n. HasFlags (take n rows) c.args.words.now) first c.requires.flags;
    }

pub overflow_add-row : goal.overflow_add-row
overflow_add-row c =
    let below = row_of_run_below c.args.starts.now c.args.before.now c.requires.summed c.args.number c.run_at-run.result
    c.loop-inside.inside c.requires.number c.run_at-run.ensures.start c.run_at-run.ensures.before c.run_at-run.ensures.end
    c.loop-inside-test.true in
    omega (arith, below, c.num_docs-num_docs.ensures, c.num_docs-num_docs.type_inv)

pub bounds-words-row : goal.bounds-words-row
bounds-words-row c =
    let below = row_of_run_below c.args.starts.now c.args.before.now c.requires.summed c.args.number c.run_at-run.result
    c.loop-inside.inside c.requires.number c.run_at-run.ensures.start c.run_at-run.ensures.before c.run_at-run.ensures.end
    c.loop-inside-test.true in
    omega (arith, below, c.requires.room, c.loop-inside.invariant.long)

pub bounds-words-row-in-loop-inside : goal.bounds-words-row-in-loop-inside
bounds-words-row-in-loop-inside c =
    let below = row_of_run_below c.args.starts.now c.args.before.now c.requires.summed c.args.number c.run_at-run.result
    c.loop-inside.inside c.requires.number c.run_at-run.ensures.start c.run_at-run.ensures.before c.run_at-run.ensures.end
    c.loop-inside-test.true in
    omega (arith, below, c.requires.room, c.loop-inside.invariant.long)

pub loop-inside-preserved : goal.loop-inside-preserved
loop-inside-preserved c =
    let rows = run_rows c.args.starts.now.rows (differences c.args.before.now) in
    let run = c.run_at-run.result in
    let inside = c.loop-inside.inside in
    let words = c.loop-inside.words in
    let row = run.start + inside in
    let len = c.min-len.result in
    let below = row_of_run_below c.args.starts.now c.args.before.now c.requires.summed c.args.number run inside
    c.requires.number c.run_at-run.ensures.start c.run_at-run.ensures.before c.run_at-run.ensures.end c.loop-inside-test.true in
    let span = run_spans c.args.starts.now c.args.before.now c.requires.summed c.args.number run inside len
    c.requires.number c.run_at-run.ensures.start c.run_at-run.ensures.before c.run_at-run.ensures.end
    (omega (arith, c.min-len.ensures)) in
    record {
      upto = omega (arith, c.min-len.ensures);
      long = length-set words _ _ ∙ c.loop-inside.invariant.long;
      flags =
          flags_run rows words run.before inside row len c.loop-inside.invariant.flags span (omega (arith, c.min-len.ensures))
          (omega (arith, below, c.requires.room, c.loop-inside.invariant.long));
    }

pub returns : goal.returns
returns c =
    let rows = run_rows c.args.starts.now.rows (differences c.args.before.now) in
    let last : c.run_at-run.result.before + c.loop-inside.inside ≡ slice_index c.args.before.now (c.args.number + 1) =
    omega (arith, c.run_at-run.ensures.end, c.loop-inside-test.false, c.loop-inside.invariant.upto) in
    subst (λ n. HasFlags (take n rows) c.loop-inside.words) last c.loop-inside.invariant.flags
