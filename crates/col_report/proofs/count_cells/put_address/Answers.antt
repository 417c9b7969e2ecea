use Rattle.std.proofs.Common.{refl}
use Rattle.col_report.proofs.TextLemmas.{octets-put}
use Rattle.col_report.proofs.count_cells.put_address.Goals as goal

pub returns : goal.returns
returns g c =
    octets-put _ _ c.to_be_bytes.result c.args.address c.args.address refl c.to_be_bytes.ensures c.put_hex.ensures
