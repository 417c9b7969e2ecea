use Rattle.std.proofs.Common.{◌/◌, ◌^◌, ◌<◌, length, ◌∙◌, arith, refl}
use Rattle.std.proofs.lemmas.Nat.{pow_pos}
use Rattle.std.proofs.lemmas.List.{length-set}
use Rattle.col_numbers.specs.Readers.{list_of}
use Rattle.col_index.proofs.SetLemmas.{rises_first, rises_taken}
use Rattle.col_index.proofs.PartLemmas.{part_le, parts_none, parts_more}
use Rattle.col_index.proofs.rank_buckets.count_rows.Goals as goal

pub loop-at-init : goal.loop-at-init
loop-at-init c = record {
  rest = rises_first c.args.num_rows (list_of c.args.rows.now);
  long = refl;
  counts = parts_none (2 ^ c.args.shift) c.args.counts.now c.requires.clear;
}

pub loop-at-preserved : goal.loop-at-preserved
loop-at-preserved c =
    let rows = list_of c.args.rows.now in
    let at = c.loop-at.at in
    let row = c.in-Some.row in
    let counts = c.loop-at.counts in
    let m = 2 ^ c.args.shift in
    let taken = rises_taken c.args.num_rows c.loop-at.next rows at (omega arith) row c.in-Some.ensures in
    let inside : row / m < length counts = omega (
      arith,
      c.loop-at.invariant.long,
      c.requires.room,
      part_le m row c.args.num_rows (pow_pos c.args.shift) (omega (arith, taken.below)),
    ) in
    record {
      rest = c.loop-at.invariant.rest ∙ taken.rest;
      long = length-set counts _ _ ∙ c.loop-at.invariant.long;
      counts = parts_more rows counts m at row c.loop-at.invariant.counts taken.read inside;
    }
