use Rattle.col_csv_export.proofs.TextLemmas.{octets-spelled}
use Rattle.col_csv_export.proofs.value_texts.PlainTextsValueTextsIpv6Addr.push.Goals as goal

pub returns : goal.returns
returns c =
    octets-spelled c.push_digits.result _ _ c.to_be_bytes.result c.to_bits.result c.args.value c.to_bits.ensures
    c.to_be_bytes.ensures c.push_digits.ensures
