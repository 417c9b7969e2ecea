use Rattle.std.proofs.Common.{Some, ap, sym, ◌∙◌}
use Rattle.col_codecs.specs.LinearParams.{params_seen}
use Rattle.col_codecs.proofs.LinearReaderLemmas.{params_at-behind}
use Rattle.col_codecs.proofs.linear.reader.read_params.Goals as goal

pub returns-clause-within : goal.returns-clause-within
returns-clause-within c =
    (params_at-behind c.args.bytes.now c.in_ok-params.rest.now (params_seen c.in_ok-params.params)
    (λ k. (c.type_inv.bytes k).fits) (sym c.in_ok-params.ensures.value)).0

pub returns-clause-value : goal.returns-clause-value
returns-clause-value c =
    let seen = params_seen c.in_ok-params.params in
    ap (λ rest. Some (seen, rest)) (params_at-behind c.args.bytes.now c.in_ok-params.rest.now seen
    (λ k. (c.type_inv.bytes k).fits) (sym c.in_ok-params.ensures.value)).1 ∙ c.in_ok-params.ensures.value
