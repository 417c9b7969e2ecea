use Rattle.std.proofs.Common.{◌≡◌, ℕ, ◌<◌, length, get_or}
use Rattle.col_terms.proofs.hash_chains.HashChains.grow.Given as goal

abbrev pub invariant-loop-id : goal.invariant-loop-id
invariant-loop-id l = record {
  count : l.grown.count ≡ l.id;
  room : length l.grown.hashes ≡ l.num_chains;
  hashes : (id : ℕ) → id < l.id → get_or l.grown.hashes id 0 ≡ get_or l.self-inside.hashes.items id 0;
}
