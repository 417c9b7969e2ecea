use Rattle.std.proofs.Common.{◌≡◌, List, ℕ, Some, take, sym, ◌∙◌, ap, subst}
use Rattle.std.proofs.lemmas.Result.{err_from_is_err_and}
use Rattle.col_common.proofs.DecodingLemmas.{refuses-as}
use Rattle.col_model.specs.AddressList.{coded_values}
use Rattle.col_compact.specs.Coded.{CodesAreRead, coded_list, coded_in}
use Rattle.col_compact.proofs.LookupLemmas.{values-some, values-none}
use Rattle.col_compact.proofs.decompressor.CompactSpaceDecompressor.open.Goals as goal

pub returns-in_err-params-clause-numbers : goal.returns-in_err-params-clause-numbers
returns-in_err-params-clause-numbers c =
    let p = err_from_is_err_and c.from_residual.result c.from_residual.ensures.1 in
    rw (p.1, p.2) (refuses-as c.in_err-params.field-0.0 (coded_list c.as_slice.result.now)
    (coded_values c.args.bytes) (λ e. values-none c.args.bytes (ap coded_list (sym c.as_slice.ensures) ∙ e))
    c.in_err-params.ensures.list)

pub invariant_of-result : goal.invariant_of-result
invariant_of-result c =
    let cut : take c.in_ok-params.len c.as_slice.result.now ≡ c.truncate.new.self =
    ap (take c.in_ok-params.len) c.as_slice.ensures ∙ sym c.truncate.ensures in
    record {
      width_is = c.codes_have_their_width.ensures.width;
      few = c.codes_have_their_width.ensures.few;
      coded = subst (λ (bytes : List ℕ). CodesAreRead c.in_ok-params.params bytes) cut c.in_ok-params.ensures.coded;
    }

pub returns-clause-numbers : goal.returns-clause-numbers
returns-clause-numbers c =
    let cut : take c.in_ok-params.len c.as_slice.result.now ≡ c.truncate.new.self =
    ap (take c.in_ok-params.len) c.as_slice.ensures ∙ sym c.truncate.ensures in
    values-some c.args.bytes (coded_in c.in_ok-params.params c.truncate.new.self) (
    ap coded_list (sym c.as_slice.ensures) ∙ c.in_ok-params.ensures.list
    ∙ ap (λ bytes. Some (coded_in c.in_ok-params.params bytes)) cut)
