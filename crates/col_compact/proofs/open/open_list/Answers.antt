use Rattle.std.proofs.Common.{◌==◌, true, false, sym, ◌∙◌, ap}
use Rattle.std.proofs.lemmas.Bool.{eq-eqb, ne_eqb}
use Rattle.std.proofs.lemmas.Result.{err_from_is_err_and}
use Rattle.col_common.proofs.DecodingLemmas.{refuses-as}
use Rattle.col_model.specs.AddressList.{values128}
use Rattle.col_compact.specs.Coded.{coded_list, headed_list}
use Rattle.col_compact.proofs.LookupLemmas.{headed-none, headed-unread, headed-read, numbers-none, numbers-some}
use Rattle.col_compact.proofs.open.open_list.Goals as goal

pub returns-in_default-clause-codes : goal.returns-in_default-clause-codes
returns-in_default-clause-codes c = headed-none c.args.bytes (sym c.in_default.ensures)

pub returns-in_default-clause-numbers : goal.returns-in_default-clause-numbers
returns-in_default-clause-numbers c = numbers-none c.args.bytes (headed-none c.args.bytes (sym c.in_default.ensures))

pub returns-in_err-list-clause-codes : goal.returns-in_err-list-clause-codes
returns-in_err-list-clause-codes c =
    let p = err_from_is_err_and c.from_residual.result c.from_residual.ensures.1 in
    rw (p.1, p.2) (refuses-as c.in_err-list.field-0.0 (coded_list c.in-Some.behind) (headed_list c.args.bytes)
    (headed-unread c.args.bytes c.in-Some.behind c.in-Some.count (sym c.in-Some.ensures))
    c.in_err-list.ensures.codes)

pub returns-in_err-list-clause-numbers : goal.returns-in_err-list-clause-numbers
returns-in_err-list-clause-numbers c =
    let p = err_from_is_err_and c.from_residual.result c.from_residual.ensures.1 in
    rw (p.1, p.2) (refuses-as c.in_err-list.field-0.0 (coded_list c.in-Some.behind) (values128 c.args.bytes) (λ e.
    numbers-none c.args.bytes
    (headed-unread c.args.bytes c.in-Some.behind c.in-Some.count (sym c.in-Some.ensures) e))
    c.in_err-list.ensures.codes)

pub returns-then-count-clause-codes : goal.returns-then-count-clause-codes
returns-then-count-clause-codes c =
    let test = ap (λ n. n == c.in-Some.count) (sym c.count.ensures) ∙ ne_eqb c.count.result c.in-Some.count c.if-count.true in
    headed-read c.args.bytes c.in-Some.behind c.in-Some.count c.in_ok-list.list false (sym c.in-Some.ensures)
    c.in_ok-list.ensures.codes test

pub returns-then-count-clause-numbers : goal.returns-then-count-clause-numbers
returns-then-count-clause-numbers c =
    let test = ap (λ n. n == c.in-Some.count) (sym c.count.ensures) ∙ ne_eqb c.count.result c.in-Some.count c.if-count.true in
    numbers-none c.args.bytes (headed-read c.args.bytes c.in-Some.behind c.in-Some.count c.in_ok-list.list false
    (sym c.in-Some.ensures) c.in_ok-list.ensures.codes test)

pub returns-clause-codes : goal.returns-clause-codes
returns-clause-codes c =
    let test = ap (λ n. n == c.in-Some.count) (sym c.count.ensures) ∙ eq-eqb c.count.result c.in-Some.count c.if-count.false in
    headed-read c.args.bytes c.in-Some.behind c.in-Some.count c.in_ok-list.list true (sym c.in-Some.ensures) c.in_ok-list.ensures.codes test

pub returns-clause-numbers : goal.returns-clause-numbers
returns-clause-numbers c =
    let test = ap (λ n. n == c.in-Some.count) (sym c.count.ensures) ∙ eq-eqb c.count.result c.in-Some.count c.if-count.false in
    numbers-some c.args.bytes c.in_ok-list.list (headed-read c.args.bytes c.in-Some.behind c.in-Some.count
    c.in_ok-list.list true (sym c.in-Some.ensures) c.in_ok-list.ensures.codes test)
