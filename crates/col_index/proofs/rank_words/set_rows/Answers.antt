use Rattle.std.proofs.Common.{◌*◌, ◌<◌, length, ◌∙◌, arith, refl}
use Rattle.std.proofs.lemmas.List.{length-set}
use Rattle.col_numbers.specs.Readers.{list_of}
use Rattle.col_index.proofs.SetLemmas.{rises_first, rises_taken}
use Rattle.col_index.proofs.RankWordLemmas.{flags_clear, flags_more}
use Rattle.col_index.proofs.rank_words.set_rows.Goals as goal

pub loop-at-init : goal.loop-at-init
loop-at-init c = record {
  rest = rises_first c.args.num_rows (list_of c.args.rows.now);
  long = refl;
  flags = flags_clear c.args.words.now c.requires.clear;
}

pub loop-at-preserved : goal.loop-at-preserved
loop-at-preserved c =
    let rows = list_of c.args.rows.now in
    let at = c.loop-at.at in
    let row = c.in-Some.row in
    let words = c.loop-at.words in
    let taken = rises_taken c.args.num_rows c.loop-at.next rows at (omega arith) row c.in-Some.ensures in
    let inside : row < 64 * length words = omega (arith, c.loop-at.invariant.long, c.requires.room, taken.below) in
    record {
      rest = c.loop-at.invariant.rest ∙ taken.rest;
      long = length-set words _ _ ∙ c.loop-at.invariant.long;
      flags = flags_more rows words at row c.loop-at.invariant.flags taken.read inside;
    }
