use Rattle.std.proofs.Common.{◌≡◌, ◌≤◌, ◌*◌, true, List, ℕ}
use Rattle.col_common.specs.Ascending.{is_rising}
use Rattle.col_model.specs.Positions.{rank}
use Rattle.col_index.specs.Ranks.{AreCounts, HasFlags}
use Rattle.col_index.proofs.rank_words.count_before.Given as goal

-- the counts so far, and that of the next word, which is at most as many as there are bits
abbrev pub invariant-loop-word : goal.invariant-loop-word
invariant-loop-word l =
    record {
      few : l.count ≤ 64 * l.word-index;
      counts : (rows : List ℕ) → is_rising rows ≡ true → HasFlags rows l.words → AreCounts rows 64 l.word-index l.before.items;
      count : (rows : List ℕ) → is_rising rows ≡ true → HasFlags rows l.words → l.count ≡ rank rows (64 * l.word-index);
    }
