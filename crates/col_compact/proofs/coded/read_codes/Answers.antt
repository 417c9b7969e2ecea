use Rattle.std.proofs.Common.{◌≡◌, ◌*◌, true, false, sym, ◌∙◌, ap}
use Rattle.std.proofs.lemmas.Result.{err_from_is_err_and}
use Rattle.col_bits.specs.Packed.{is_packed}
use Rattle.col_common.proofs.DecodingLemmas.{refuses-as}
use Rattle.col_model.specs.AddressList.{address_footer}
use Rattle.col_compact.specs.Coded.{coded_by}
use Rattle.col_compact.proofs.CodedLemmas.{coded_by-none, coded_by-loose, coded_by-packed}
use Rattle.col_compact.proofs.coded.read_codes.Goals as goal

pub returns-in_err-params-clause-list : goal.returns-in_err-params-clause-list
returns-in_err-params-clause-list c =
    let p = err_from_is_err_and c.from_residual.result c.from_residual.ensures.1 in
    rw (p.1, p.2) (refuses-as c.in_err-params.field-0.0 (address_footer c.args.footer.now)
    (coded_by c.args.codes.now c.args.footer.now) (coded_by-none c.args.codes.now c.args.footer.now)
    c.in_err-params.ensures)

pub returns-then-not-is_packed-clause-list : goal.returns-then-not-is_packed-clause-list
returns-then-not-is_packed-clause-list c =
    let f = c.in_ok-params.params in
    let bits : c.num_vals.result * c.bit_width-num_bits.result ≡ f.count * f.code_width =
    λ i. c.num_vals.ensures.value i * (c.bit_width-num_bits.ensures ∙ c.bit_unpacker.ensures.value) i in
    coded_by-loose c.args.codes.now c.args.footer.now f c.in_ok-params.ensures
    (ap (is_packed c.args.codes.now) (sym bits) ∙ sym c.is_packed.ensures ∙ c.if-not-is_packed.true)

pub returns-then-not-are_codes-clause-list : goal.returns-then-not-are_codes-clause-list
returns-then-not-are_codes-clause-list c =
    let f = c.in_ok-params.params in
    let bits : c.num_vals.result * c.bit_width-num_bits.result ≡ f.count * f.code_width =
    λ i. c.num_vals.ensures.value i * (c.bit_width-num_bits.ensures ∙ c.bit_unpacker.ensures.value) i in
    coded_by-packed c.args.codes.now c.args.footer.now f false c.in_ok-params.ensures
    (ap (is_packed c.args.codes.now) (sym bits) ∙ sym c.is_packed.ensures ∙ c.if-not-is_packed.false)
    (sym c.are_codes.ensures ∙ c.if-not-are_codes.true)

pub returns-clause-list : goal.returns-clause-list
returns-clause-list c =
    let f = c.in_ok-params.params in
    let bits : c.num_vals.result * c.bit_width-num_bits.result ≡ f.count * f.code_width =
    λ i. c.num_vals.ensures.value i * (c.bit_width-num_bits.ensures ∙ c.bit_unpacker.ensures.value) i in
    coded_by-packed c.args.codes.now c.args.footer.now f true c.in_ok-params.ensures
    (ap (is_packed c.args.codes.now) (sym bits) ∙ sym c.is_packed.ensures ∙ c.if-not-is_packed.false)
    (sym c.are_codes.ensures ∙ c.if-not-are_codes.false)

pub returns-clause-coded : goal.returns-clause-coded
returns-clause-coded c = sym c.are_codes.ensures ∙ c.if-not-are_codes.false
