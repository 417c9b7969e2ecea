use Rattle.std.proofs.Common.{◌≡◌, ℕ, ◌<◌, length, map, get_or}
use Rattle.col_terms.specs.Building.{TermRef}
use Rattle.col_terms.proofs.dictionary_builder.DictionaryBuilder.map_ids.Given as goal

abbrev pub invariant-loop-ord : goal.invariant-loop-ord
invariant-loop-ord l = record {
  long : length l.ords.items ≡ length l.terms;
  placed : (k : ℕ) → k < l.ord → get_or l.ords.items (get_or (map (λ (p : TermRef). p.2) l.terms) k 0) 0 ≡ k;
}
