use Rattle.std.proofs.Common.{◌≡◌, ◌<◌, ◌^◌, List, ℕ, Some, length, subst}
use Rattle.col_model.specs.AddressList.{coded_values}
use Rattle.col_compact.specs.Covers.{Represents}
use Rattle.col_compact.specs.Written.{footer_bytes, trained_footer, coded_bytes}
use Rattle.col_compact.proofs.ListLemmas.{coded-again}
use Rattle.col_compact.proofs.compact_space.CompactSpace.lists_are_read_back.Goals as goal

pub returns : goal.returns
returns c =
    subst (λ (rs : List (ℕ × ℕ)). (xs : List ℕ) → Represents xs (record { ranges = rs; count = c.args.num_vals })
    → length (footer_bytes (trained_footer (record { ranges = rs; count = c.args.num_vals }))) < 2 ^ 64
    → coded_values (coded_bytes (record { ranges = rs; count = c.args.num_vals }) xs) ≡ Some xs) c.self.view_is
    (coded-again c.self.inside.ranges_mapping.items c.self.invariant c.args.num_vals)
