use Rattle.col_model.proofs.U64ListLaws.{values64-bitpacked_bytes}
use Rattle.col_model.proofs.laws.bitpacked_lists_are_read_back.Goals as goal

pub returns : goal.returns
returns c = values64-bitpacked_bytes
