use Rattle.std.proofs.Common.{subst, map}
use Rattle.std.proofs.lemmas.Result.{err_from_is_err_and}
use Rattle.col_numbers.specs.CodecTypes.{code_of}
use Rattle.col_numbers.specs.Written.{HasBest}
use Rattle.col_numbers.proofs.WrittenLemmas.{at_some, from_some, nothing_offered, appends_list, behind_code}
use Rattle.col_numbers.proofs.serialize.serialize_estimated_values.Goals as goal

pub returns-then-is_empty-clause-ok : goal.returns-then-is_empty-clause-ok
returns-then-is_empty-clause-ok g c = nothing_offered code_of c.args.codec_types.now _ _ c.if-is_empty.ensures

pub returns-in_err-serialize-clause-ok : goal.returns-in_err-serialize-clause-ok
returns-in_err-serialize-clause-ok g c =
    let xs = map g.T.MonotonicallyMappableToU64.code (g.I.Iterable.items c.args.vals.now) in
    let best = subst (HasBest xs (map code_of c.args.codec_types.now)) c.in-Some-2.is c.in_ok-chosen.ensures.ok in
    let p = err_from_is_err_and c.from_residual-in_err-serialize.result c.from_residual-in_err-serialize.ensures.1 in
    rw (p.1, p.2) (at_some _ _ _ best.0 (λ _. behind_code _ _ _ _ _ _ _ xs c.to_code.ensures
    c.in_ok-serialize_bytes.ensures (from_some _ _ _ best.1.estimated c.in_err-serialize.ensures.ok)))

pub returns-clause-list : goal.returns-clause-list
returns-clause-list g c =
    let xs = map g.T.MonotonicallyMappableToU64.code (g.I.Iterable.items c.args.vals.now) in
    let best = subst (HasBest xs (map code_of c.args.codec_types.now)) c.in-Some-2.is c.in_ok-chosen.ensures.ok in
    appends_list _ _ _ xs _ _ c.in-Some.ensures.fit c.in-Some.ensures.count best.0
    (behind_code _ _ _ _ _ _ _ xs c.to_code.ensures c.in_ok-serialize_bytes.ensures
    (from_some _ _ _ best.1.estimated c.in_ok-serialize.ensures.ok))

pub returns-clause-ok : goal.returns-clause-ok
returns-clause-ok g c =
    let xs = map g.T.MonotonicallyMappableToU64.code (g.I.Iterable.items c.args.vals.now) in
    let best = subst (HasBest xs (map code_of c.args.codec_types.now)) c.in-Some-2.is c.in_ok-chosen.ensures.ok in
    at_some _ _ _ best.0 (λ _. behind_code _ _ _ _ _ _ _ xs c.to_code.ensures c.in_ok-serialize_bytes.ensures
    (from_some _ _ _ best.1.estimated c.in_ok-serialize.ensures.ok))
