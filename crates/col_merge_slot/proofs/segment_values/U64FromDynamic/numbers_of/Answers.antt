use Rattle.std.proofs.Common.{◌∙◌, ap, is_some}
use Rattle.col_dynamic.specs.Dynamic.{content_of}
use Rattle.col_merge_slot.proofs.ReadLemmas.{fits-u64, is-u64}
use Rattle.col_merge_slot.proofs.segment_values.U64FromDynamic.numbers_of.Goals as goal

pub returns-in_err-coerce_numerical-clause-read : goal.returns-in_err-coerce_numerical-clause-read
returns-in_err-coerce_numerical-clause-read c =
    ap is_some c.from_residual.ensures ∙ c.in_err-coerce_numerical.ensures.fits ∙ fits-u64 c.args.column

pub returns-clause-read : goal.returns-clause-read
returns-clause-read c =
    let there = is-u64 c.in_ok-coerce_numerical.field-0 (content_of c.args.column)
    c.in_ok-coerce_numerical.ensures.kind c.in_ok-coerce_numerical.ensures.content in
    ap is_some c.into_u64.ensures ∙ there.0 ∙ c.in_ok-coerce_numerical.ensures.fits ∙ fits-u64 c.args.column
