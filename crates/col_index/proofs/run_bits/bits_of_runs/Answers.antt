use Rattle.std.proofs.Common.{length, drop, sym, ap, subst, ◌∙◌, arith}
use Rattle.std.proofs.lemmas.List.{take_at}
use Rattle.col_common.specs.Ascending.{differences}
use Rattle.col_model.specs.Index.{run_rows}
use Rattle.col_index.specs.Ranks.{AreCounts, AreRanks, HasFlags}
use Rattle.col_index.proofs.RunBitLemmas.{run_rows_rise, run_rows_few, ranks_none}
use Rattle.col_index.proofs.run_bits.bits_of_runs.Goals as goal

pub returns-then-from : goal.returns-then-from
returns-then-from c =
    let none = ranks_none c.args.starts.now c.args.before.now c.requires
    (omega (arith, c.num_docs-num_rows.ensures, c.num_docs-num_rows.type_inv)) in
    rw (c.empty.ensures.words, c.empty.ensures.before) none

pub count_before-requires : goal.count_before-requires
count_before-requires c =
    let words = c.set_runs.new.words in
    let same = take_at words (drop (length words) c.in_ok-words.words.items) c.in_ok-words.words.len
    (c.set_runs.auto.words ∙ c.deref_mut.ensures.len) in
    let long = ap length (c.deref.ensures.value ∙ same) in
    omega (
      arith,
      long,
      c.set_runs.auto.words,
      c.deref_mut.ensures.len,
      c.in_ok-words.ensures.len,
      c.div_ceil.ensures,
      c.num_docs-num_rows.type_inv,
    )

pub returns : goal.returns
returns c =
    let s = c.args.starts.now in
    let sums = c.args.before.now in
    let rows = run_rows s.rows (differences sums) in
    let words = c.set_runs.new.words in
    let before = c.in_ok-before.before.items in
    let same = take_at words (drop (length words) c.in_ok-words.words.items) c.in_ok-words.words.len
    (c.set_runs.auto.words ∙ c.deref_mut.ensures.len) in
    let read = c.deref.ensures.value ∙ same in
    let flags = c.set_runs.ensures in
    let counts = c.in_ok-before.ensures rows (run_rows_rise s sums c.requires) (subst (λ ws. HasFlags rows ws) (sym read) flags) in
    subst (λ ws. AreRanks rows ws before) (sym same) (record {
      few = run_rows_few s sums c.requires (omega (arith, c.num_docs-num_rows.ensures, c.num_docs-num_rows.type_inv));
      flags = flags;
      counts = subst (λ k. AreCounts rows 64 k before) (ap length read) counts;
    })
