use Rattle.std.proofs.Common.{Some, List, ℕ, sym, ◌∙◌, ap, subst}
use Rattle.std.proofs.lemmas.Result.{err_from_is_err_and}
use Rattle.col_common.proofs.DecodingLemmas.{refuses-as}
use Rattle.col_compact.specs.Coded.{CodesAreRead, coded_by, coded_list, coded_in}
use Rattle.col_compact.proofs.CodedLemmas.{coded_list-none, coded_list-some}
use Rattle.col_compact.proofs.coded.read_list.Goals as goal

pub returns-in_default-clause-list : goal.returns-in_default-clause-list
returns-in_default-clause-list c = coded_list-none c.args.bytes.now (sym c.in_default.ensures.parts)

pub returns-in_err-read_codes-clause-list : goal.returns-in_err-read_codes-clause-list
returns-in_err-read_codes-clause-list c =
    let cut = coded_list-some c.args.bytes.now c.in-Some.codes.now c.in-Some.footer.now (sym c.in-Some.ensures.parts) in
    let p = err_from_is_err_and c.from_residual.result c.from_residual.ensures.1 in
    rw (p.1, p.2) (refuses-as c.in_err-read_codes.field-0.0 (coded_by c.in-Some.codes.now c.in-Some.footer.now)
    (coded_list c.args.bytes.now) (λ e. cut ∙ e) c.in_err-read_codes.ensures.list)

pub returns-clause-list : goal.returns-clause-list
returns-clause-list c =
    coded_list-some c.args.bytes.now c.in-Some.codes.now c.in-Some.footer.now (sym c.in-Some.ensures.parts)
    ∙ c.in_ok-read_codes.ensures.list
    ∙ ap (λ bytes. Some (coded_in c.in_ok-read_codes.field-0 bytes)) c.in-Some.ensures.front.is

pub returns-clause-coded : goal.returns-clause-coded
returns-clause-coded c =
    subst (λ (bytes : List ℕ). CodesAreRead c.in_ok-read_codes.field-0 bytes) c.in-Some.ensures.front.is
    c.in_ok-read_codes.ensures.coded
