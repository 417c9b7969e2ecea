use Rattle.col_model.proofs.OneFormLaws.{bitpacked_bytes-values64}
use Rattle.col_model.proofs.laws.bitpacked_lists_have_one_form.Goals as goal

pub returns : goal.returns
returns c = bitpacked_bytes-values64
