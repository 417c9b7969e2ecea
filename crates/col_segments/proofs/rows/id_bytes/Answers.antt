use Rattle.std.proofs.Common.{subst, arith}
use Rattle.std.proofs.lemmas.List.{take_all}
use Rattle.col_segments.proofs.IdLemmas.{Spells, spells-all}
use Rattle.col_segments.proofs.rows.id_bytes.Goals as goal

pub returns : goal.returns
returns c =
    let bytes = c.loop-id.bytes.items in
    let all = take_all c.loop-id.id-index c.args.ids.now (omega (arith, c.loop-id-test.false)) in
    spells-all bytes c.args.ids.now (subst (Spells bytes) all c.loop-id.invariant)
