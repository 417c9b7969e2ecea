use Rattle.std.proofs.Common.{Some, ap, sym, ◌∙◌}
use Rattle.col_common.specs.Reading.{◌>>=◌}
use Rattle.col_model.specs.AddressList.{ranges_at, address_footer_at}
use Rattle.col_compact.specs.Heads.{head_seen}
use Rattle.col_compact.proofs.ParamsLemmas.{footer-none, footer-head, footer-other, footer-some, count-fits, with_ranges}
use Rattle.col_common.proofs.DecodingLemmas.{refuses-as}
use Rattle.col_compact.proofs.codec_params.read_params.Goals as goal

pub returns-in_default : goal.returns-in_default
returns-in_default c = footer-none c.args.bytes.now (sym c.in_default.ensures.head)

pub returns-then-not-is_head_of : goal.returns-then-not-is_head_of
returns-then-not-is_head_of c =
    footer-other c.args.bytes.now c.in-Some.rest.now c.in-Ok.rest.now (head_seen c.in-Some.head) c.in-Ok.space
    (sym c.in-Some.ensures.head) c.in-Ok.ensures (sym c.is_head_of.ensures ∙ c.if-not-is_head_of.true)

pub new-requires : goal.new-requires
new-requires c =
    count-fits (head_seen c.in-Some.head) c.in-Ok.space c.in-Some.ensures.bounds
    (sym c.is_head_of.ensures ∙ c.if-not-is_head_of.false)

pub returns-else-not-is_head_of : goal.returns-else-not-is_head_of
returns-else-not-is_head_of c =
    footer-some c.args.bytes.now c.in-Some.rest.now c.in-Ok.rest.now (head_seen c.in-Some.head) c.in-Ok.space
    (sym c.in-Some.ensures.head) c.in-Ok.ensures (sym c.is_head_of.ensures ∙ c.if-not-is_head_of.false)
    ∙ ap (λ f. Some (f, c.in-Ok.rest.now)) (sym c.new.ensures)

pub returns-in-Err : goal.returns-in-Err
returns-in-Err c =
    refuses-as c.in-Err.refusal (ranges_at c.in-Some.rest.now) (address_footer_at c.args.bytes.now)
    (λ e. footer-head c.args.bytes.now c.in-Some.rest.now (head_seen c.in-Some.head) (sym c.in-Some.ensures.head)
    ∙ ap (λ o. o >>= with_ranges (head_seen c.in-Some.head)) e) c.in-Err.ensures
