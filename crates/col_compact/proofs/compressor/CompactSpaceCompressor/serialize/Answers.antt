use Rattle.std.proofs.lemmas.Result.{err_from_is_err_and}
use Rattle.std.proofs.Common.{ap, ◌∙◌}
use Rattle.col_compact.proofs.WritingLemmas.{list-refused, list-written}
use Rattle.col_compact.proofs.compressor.CompactSpaceCompressor.serialize.Goals as goal

pub returns-in_err-serialize_bytes : goal.returns-in_err-serialize_bytes
returns-in_err-serialize_bytes g c =
    let p = err_from_is_err_and c.from_residual-in_err-serialize_bytes.result c.from_residual-in_err-serialize_bytes.ensures.1 in
    rw (p.1, p.2) (list-refused _ _ _ _ _ _ _ (g.I.Iterable.items c.args.vals.now) c.in_ok-serialize.ensures.ok
    c.in_err-serialize_bytes.ensures)

pub returns : goal.returns
returns g c =
    list-written _ _ _ _ _ _ _ _ c.args.self.now _ (c.from.ensures ∙ ap (λ t. t.count) c.self.view_is) c.requires
    c.in_ok-serialize.ensures.ok c.in_ok-serialize_bytes.ensures c.compress_into.ensures.ok
    c.compress_into.ensures.again
