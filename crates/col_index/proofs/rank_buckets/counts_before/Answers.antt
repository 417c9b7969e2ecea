use Rattle.std.proofs.Common.{◌≡◌, ◌^◌, ◌+◌, ◌/◌, ◌∙◌, true, length, drop, sum, sym, ap, subst, arith}
use Rattle.std.proofs.lemmas.List.{take_at}
use Rattle.std.proofs.lemmas.Nat.{pow_pos}
use Rattle.col_numbers.specs.Readers.{list_of}
use Rattle.col_index.specs.Sets.{is_row_list}
use Rattle.col_index.specs.Ranks.{AreCounts, AreSums}
use Rattle.col_index.proofs.SetLemmas.{few_rows}
use Rattle.col_index.proofs.PartLemmas.{sum_few, sums-counts}
use Rattle.col_index.proofs.rank_buckets.counts_before.Goals as goal

pub sums_before-requires : goal.sums_before-requires
sums_before-requires c =
    let rows = list_of c.args.rows.now in
    let n = c.args.num_rows in
    let shift = c.args.shift in
    let counts = c.count_rows.new.counts in
    let same = take_at counts (drop (length counts) c.in_ok-counts.counts.items) c.in_ok-counts.counts.len
    (c.count_rows.auto.counts ∙ c.deref_mut.ensures.len) in
    let own : is_row_list n rows ≡ true = sym c.count_rows.ensures.rows ∙ c.if-not-count_rows.false in
    let few = few_rows n rows own in
    let total = ap sum (c.deref.ensures.value ∙ same) in
    let small = sum_few rows counts (2 ^ shift) (pow_pos shift) (c.count_rows.ensures.counts c.if-not-count_rows.false) in
    omega (arith, few, total, small, c.ranges.num_rows.fits)

pub returns-clause-counts : goal.returns-clause-counts
returns-clause-counts c =
    let rows = list_of c.args.rows.now in
    let n = c.args.num_rows in
    let shift = c.args.shift in
    let counts = c.count_rows.new.counts in
    let before = c.in_ok-sums_before.field-0.items in
    let same = take_at counts (drop (length counts) c.in_ok-counts.counts.items) c.in_ok-counts.counts.len
    (c.count_rows.auto.counts ∙ c.deref_mut.ensures.len) in
    let sums = subst (λ cs. AreSums cs before) (c.deref.ensures.value ∙ same) c.in_ok-sums_before.ensures in
    let ranks = sums-counts rows counts (2 ^ shift) (pow_pos shift) (c.count_rows.ensures.counts c.if-not-count_rows.false) before sums in
    let parts : length counts ≡ n / 2 ^ shift + 1 =
    omega (arith, c.count_rows.auto.counts, c.deref_mut.ensures.len, c.in_ok-counts.ensures.len) in
    record {
      short = c.requires;
      room = omega (arith, ranks.long, parts);
      counts = subst (λ k. AreCounts rows (2 ^ shift) k before) (sym ranks.long) ranks;
    }
