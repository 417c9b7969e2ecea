use Rattle.std.proofs.Common.{List, ℕ, ◌≡◌, ◌+◌, ◌*◌, true, count_ones, get_or, sym, subst, arith, refl}
use Rattle.col_common.specs.Ascending.{is_rising}
use Rattle.col_model.specs.Positions.{rank}
use Rattle.col_index.specs.Ranks.{AreCounts, HasFlags}
use Rattle.col_index.proofs.SearchLemmas.{rank_of_zero}
use Rattle.col_common.proofs.OnesLemmas.{ones_few}
use Rattle.col_index.proofs.RankWordLemmas.{whole_word}
use Rattle.col_index.proofs.PartLemmas.{table_none, table_more}
use Rattle.col_index.proofs.rank_words.count_before.Goals as goal

pub loop-word-init : goal.loop-word-init
loop-word-init c = record {
  few = omega arith;
  counts = λ rows e f. subst (AreCounts rows 64 0) (sym c.in_ok-before.ensures.items) (table_none (λ part. rank rows (64 * part)));
  count = λ rows e f. rank_of_zero rows;
}

pub overflow_cast-count : goal.overflow_cast-count
overflow_cast-count c = omega (arith, c.loop-word.invariant.few, c.loop-word-test.true, c.requires)

pub loop-word-preserved : goal.loop-word-preserved
loop-word-preserved c =
    let words = c.args.words.now in
    let at = c.loop-word.word-index in
    let word = get_or words at 0 in
    let fits = (c.type_inv.words at).fits in
    let next : (rows : List ℕ) → is_rising rows ≡ true → HasFlags rows words
    → rank rows (64 * at) + count_ones word ≡ rank rows (64 * (at + 1)) =
    λ rows e f. whole_word rows words e f at word c.loop-word-test.true fits refl in
    record {
      few = omega (arith, c.loop-word.invariant.few, c.from-count.ensures, ones_few word fits);
      counts = λ rows e f.
          subst (AreCounts rows 64 (at + 1)) (sym c.in_ok-push.ensures.items) (table_more
          (λ part. rank rows (64 * part)) c.loop-word.before.items at c.loop-word.count (c.loop-word.invariant.counts rows e f)
          (c.loop-word.invariant.count rows e f));
      count = λ rows e f. omega (arith, c.from-count.ensures, c.loop-word.invariant.count rows e f, next rows e f);
    }
