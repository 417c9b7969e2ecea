use Rattle.std.proofs.Common.{sym, ap, ◌∙◌, subst}
use Rattle.std.specs.Net.Grammar.{IsIpText}
use Rattle.std.specs.declared.net.ip_addr.IpAddr.{IpAddr}
use Rattle.col_documents.specs.Addresses.{address_of, address_of_text}
use Rattle.col_documents.proofs.AddressLemmas.{address_dotted, address_grouped, no_address}
use Rattle.col_documents.proofs.address.address_spelled.Goals as goal

pub returns-in-Ok-V4 : goal.returns-in-Ok-V4
returns-in-Ok-V4 c =
    let s = c.as_bytes.result.now in
    let is = subst (λ (a : IpAddr). IsIpText s a) c.in-Ok-V4.field-0-is c.in-Ok-V4.ensures in
    ap address_of_text (sym c.as_bytes.ensures.value) ∙ address_dotted s c.in-Ok-V4.address.octets is
    ∙ ap address_of (sym c.to_ipv6_mapped.ensures) ∙ c.value_of.ensures

pub returns-in-Ok-V6 : goal.returns-in-Ok-V6
returns-in-Ok-V6 c =
    let s = c.as_bytes.result.now in
    let is = subst (λ (a : IpAddr). IsIpText s a) c.in-Ok-V6.field-0-is c.in-Ok-V6.ensures in
    ap address_of_text (sym c.as_bytes.ensures.value) ∙ address_grouped s c.in-Ok-V6.address.segments is ∙ c.value_of-in-Ok-V6.ensures

pub returns-in-Err : goal.returns-in-Err
returns-in-Err c =
    ap address_of_text (sym c.as_bytes.ensures.value) ∙ no_address c.as_bytes.result.now c.in-Err.ensures
