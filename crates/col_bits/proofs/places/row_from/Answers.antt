use Rattle.std.proofs.Common.{◌+◌, ◌%◌, ◌^◌, ℕ, map, replicate, ap, ◌∙◌}
use Rattle.std.proofs.lemmas.List.{map-id}
use Rattle.std.proofs.lemmas.Simd.{zip2_splat}
use Rattle.std.specs.Simd.Lanes.{zip2}
use Rattle.col_bits.specs.Places.{row}
use Rattle.col_bits.proofs.RowLemmas.{length-row}
use Rattle.col_bits.proofs.places.row_from.Goals as goal

pub returns : goal.returns
returns c =
    ap (λ xs. zip2 (λ (a b : ℕ). (a + b) % 2 ^ 32) (map (λ (x : ℕ). x) xs) (replicate 8 c.args.base)) c.row_of.ensures
    ∙ (ap (λ xs. zip2 (λ (a b : ℕ). (a + b) % 2 ^ 32) xs (replicate 8 c.args.base)) (map-id (row c.args.byte))
    ∙ zip2_splat (λ (a b : ℕ). (a + b) % 2 ^ 32) (row c.args.byte) 8 c.args.base (length-row c.args.byte))
