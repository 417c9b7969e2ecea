use Rattle.std.proofs.Common.{arith}
use Rattle.col_terms.proofs.HeadLemmas.{head_spelled}
use Rattle.col_terms.proofs.table.padded_head.Goals as goal

pub returns-clause-number : goal.returns-clause-number
returns-clause-number c =
    let spelled = head_spelled c.args.bytes.now in
    omega (
      arith,
      spelled,
      c.from_be_bytes.ensures,
      c.byte_at.ensures,
      c.byte_at-2.ensures,
      c.byte_at-3.ensures,
      c.byte_at-4.ensures,
      c.byte_at-5.ensures,
      c.byte_at-6.ensures,
      c.byte_at-7.ensures,
      c.byte_at-8.ensures,
    )
