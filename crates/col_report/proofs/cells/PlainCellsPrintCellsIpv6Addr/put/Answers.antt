use Rattle.col_report.proofs.TextLemmas.{octets-put}
use Rattle.col_report.proofs.cells.PlainCellsPrintCellsIpv6Addr.put.Goals as goal

pub returns : goal.returns
returns g c =
    octets-put _ _ c.to_be_bytes.result c.to_bits.result c.args.value c.to_bits.ensures c.to_be_bytes.ensures c.put_hex.ensures
