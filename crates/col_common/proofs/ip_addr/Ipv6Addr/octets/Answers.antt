use Rattle.std.proofs.Common.{◌≡◌, ℕ, sym, ◌∙◌, ap, arith}
use Rattle.std.specs.Int.{to_be_bytes, w128}
use Rattle.std.specs.Int.Digits.{number_from_digits}
use Rattle.std.specs.Ordering.{nat_cmp}
use Rattle.col_common.proofs.OctetLemmas.{octets_again, octets_closed, octets_ordered, are_octets}
use Rattle.col_common.proofs.ip_addr.Ipv6Addr.octets.Goals as goal

pub returns-clause-number : goal.returns-clause-number
returns-clause-number c =
    ap (number_from_digits 256) c.to_be_bytes.ensures ∙ (octets_again c.to_bits.result (omega arith) ∙ c.to_bits.ensures)

pub returns-clause-again : goal.returns-clause-again
returns-clause-again c octets are same =
    let n : ℕ = c.to_bits.result in
    let number : number_from_digits 256 (to_be_bytes w128 n) ≡ number_from_digits 256 octets =
    octets_again n (omega arith) ∙ (c.to_bits.ensures ∙ sym same) in
    c.to_be_bytes.ensures ∙ octets_closed (to_be_bytes w128 n) octets (sym are.count) (are_octets n) are.each number

pub returns-clause-order : goal.returns-clause-order
returns-clause-order c other are =
    let n : ℕ = c.to_bits.result in
    rw c.to_be_bytes.ensures
    (octets_ordered (to_be_bytes w128 n) other (sym are.count) (are_octets n) are.each
    ∙ ap (λ m. nat_cmp m (number_from_digits 256 other)) (octets_again n (omega arith) ∙ c.to_bits.ensures))
