use Rattle.std.proofs.Common.{◌∙◌}
use Rattle.col_codecs.proofs.BitpackedLemmas.{at-read}
use Rattle.col_codecs.proofs.bitpacked.BitpackedReaderColumnValuesU64.get_vals_opt.Goals as goal

pub find_vals-requires-clause-fit : goal.find_vals-requires-clause-fit
find_vals-requires-clause-fit c =
    (at-read _ _ _ _ _ _ c.self.view_is c.self.invariant.0 c.as_slice-bytes.ensures c.requires.below).0

pub returns : goal.returns
returns c =
    c.find_vals.ensures
    ∙ (at-read _ _ _ _ _ _ c.self.view_is c.self.invariant.0 c.as_slice-bytes.ensures c.requires.below).1
