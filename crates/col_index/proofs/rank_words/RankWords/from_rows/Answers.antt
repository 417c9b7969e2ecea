use Rattle.std.proofs.Common.{◌≡◌, ◌∙◌, true, length, drop, sym, ap, subst, arith}
use Rattle.std.proofs.lemmas.List.{take_at}
use Rattle.col_numbers.specs.Readers.{list_of}
use Rattle.col_index.specs.Sets.{is_row_list}
use Rattle.col_index.specs.Ranks.{AreCounts, AreRanks, HasFlags}
use Rattle.col_index.proofs.RankLaws.{rows_rise}
use Rattle.col_index.proofs.SetLemmas.{few_rows}
use Rattle.col_index.proofs.rank_words.RankWords.from_rows.Goals as goal

pub count_before-requires : goal.count_before-requires
count_before-requires c =
    let words = c.set_rows.new.words in
    let same = take_at words (drop (length words) c.in_ok-words.words.items) c.in_ok-words.words.len
    (c.set_rows.auto.words ∙ c.deref_mut.ensures.len) in
    let long = ap length (c.deref.ensures.value ∙ same) in
    omega (
      arith,
      long,
      c.set_rows.auto.words,
      c.deref_mut.ensures.len,
      c.in_ok-words.ensures.len,
      c.div_ceil.ensures,
      c.ranges.num_rows.fits,
    )

pub returns-clause-ranks : goal.returns-clause-ranks
returns-clause-ranks c =
    let rows = list_of c.args.rows.now in
    let n = c.args.num_rows in
    let words = c.set_rows.new.words in
    let before = c.in_ok-before.before.items in
    let same = take_at words (drop (length words) c.in_ok-words.words.items) c.in_ok-words.words.len
    (c.set_rows.auto.words ∙ c.deref_mut.ensures.len) in
    let own : is_row_list n rows ≡ true = sym c.set_rows.ensures.rows ∙ c.if-not-set_rows.false in
    let few = few_rows n rows own in
    let read = c.deref.ensures.value ∙ same in
    let flags = c.set_rows.ensures.flags c.if-not-set_rows.false in
    let counts = c.in_ok-before.ensures rows (rows_rise (record { num_rows = n; rows = rows }) own)
    (subst (λ ws. HasFlags rows ws) (sym read) flags) in
    subst (λ ws. AreRanks rows ws before) (sym same) (record {
      few = omega (arith, few, c.ranges.num_rows.fits);
      flags = flags;
      counts = subst (λ k. AreCounts rows 64 k before) (ap length read) counts;
    })

pub returns-clause-room : goal.returns-clause-room
returns-clause-room c =
    let words = c.set_rows.new.words in
    let same = take_at words (drop (length words) c.in_ok-words.words.items) c.in_ok-words.words.len
    (c.set_rows.auto.words ∙ c.deref_mut.ensures.len) in
    omega (arith, ap length same, c.set_rows.auto.words, c.deref_mut.ensures.len, c.in_ok-words.ensures.len, c.div_ceil.ensures)
