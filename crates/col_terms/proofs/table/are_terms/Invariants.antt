use Rattle.std.proofs.Common.{◌≡◌, ◌≤◌, length, drop, option_map}
use Rattle.col_terms.specs.TermTable.{numbers_in, cut_whole}
use Rattle.col_terms.proofs.CutLemmas.{cut_rest}
use Rattle.col_terms.proofs.table.are_terms.Given as goal

abbrev pub invariant-loop-i : goal.invariant-loop-i
invariant-loop-i l = record {
  test : cut_whole (numbers_in l.num_terms l.ends) l.text
      ≡ cut_rest l.start (option_map (λ t. t.now) l.last) (drop l.i (numbers_in l.num_terms l.ends))
      (drop l.start l.text);
  within : l.start ≤ length l.text;
}
