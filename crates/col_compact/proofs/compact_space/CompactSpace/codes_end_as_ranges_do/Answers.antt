use Rattle.std.proofs.Common.{◌≡◌, ℕ, ◌<◌, List, true, length, subst}
use Rattle.col_model.specs.Stats.{least_of, greatest_of}
use Rattle.col_model.specs.AddressList.{code_count}
use Rattle.col_compact.proofs.CodedLemmas.{are_all_codes, ends_known}
use Rattle.col_compact.proofs.compact_space.CompactSpace.codes_end_as_ranges_do.Goals as goal

pub returns : goal.returns
returns c =
    subst (λ (rs : List (ℕ × ℕ)). (codes : List ℕ) → 0 < length codes → are_all_codes rs codes ≡ true
    → (least_of codes ≡ 1) × (greatest_of codes ≡ code_count rs)) c.self.view_is
    (ends_known c.self.inside.ranges_mapping.items c.self.invariant)
