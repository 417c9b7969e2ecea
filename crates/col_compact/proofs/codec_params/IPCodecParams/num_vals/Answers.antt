use Rattle.std.proofs.Common.{◌≡◌, subst}
use Rattle.col_model.specs.AddressList.{AddressFooter, first_start, last_end}
use Rattle.col_compact.proofs.CodedLemmas.{no_bounds}
use Rattle.col_compact.proofs.codec_params.IPCodecParams.num_vals.Goals as goal

pub returns-clause-none : goal.returns-clause-none
returns-clause-none c =
    let s = c.self.inside in
    subst (λ (f : AddressFooter). f.count ≡ 0 → (f.least ≡ 0) × (f.greatest ≡ 0)) c.self.view_is
    (no_bounds (first_start s.compact_space) (last_end s.compact_space) s.num_vals c.self.invariant.1)
