-- Addresses that are read from whole texts.
use Rattle.std.proofs.Common.{◌≡◌, ℕ, List, [], ◌∷◌, ◌++◌, length, Some, None, Err, refl, sym, ap, ◌∙◌, subst, arith, append-nil, ne_eqb, lit≤, if◌then◌else◌}
use Rattle.std.specs.Net.Grammar.{IsDotted, IsColonHex, IsIpText}
use Rattle.std.specs.Net.Reader.{Read, read_ipv4, read_ipv6, whole_value}
use Rattle.std.specs.declared.net.ip_addr.IpAddr.{IpAddr}
use Rattle.std.specs.declared.net.ip_addr.IpAddr.TheVariants as Ip
use Rattle.std.proofs.NetLemmas.Ipv4.{read_ipv4_complete, read_ipv4_sound}
use Rattle.std.proofs.NetLemmas.Ipv6.{read_ipv6_complete, read_ipv6_sound, EndsGroups-nil, IsDotted-not_colon_hex}
use Rattle.col_documents.specs.Addresses.{address_of, mapped, address_of_either, address_of_text}
use Rattle.col_documents.specs.declared.refusal.Reason.TheVariants as reasons

-- a reader that finds nothing
nothing-whole : (s : List ℕ) (Spells : List ℕ → List ℕ → Type 0) (r : Read (List ℕ))
    → ((found rest : List ℕ) → r ≡ Some (found, rest) → (front : List ℕ) × (s ≡ front ++ rest) × Spells front found)
    → ((found : List ℕ) → ¬ (Spells s found)) → whole_value r ≡ None
nothing-whole s Spells None sound none = refl
nothing-whole s Spells (Some (found, [])) sound none =
    let (front, split, spells) = sound found [] refl in
    absurd (none found (subst (λ t. Spells t found) (sym (split ∙ append-nil front)) spells))
nothing-whole s Spells (Some (found, c ∷ rest)) sound none =
    ap (λ b. if b then Some found else None) (ne_eqb (length (c ∷ rest)) 0 (omega arith))

-- four numbers with dots
dotted : (s o : List ℕ) → IsDotted s o → whole_value (read_ipv4 s) ≡ Some o
dotted s o is = ap whole_value (subst (λ t. read_ipv4 t ≡ Some (o, [])) (append-nil s) (read_ipv4_complete s o [] is (lit≤ tt)))

-- groups with colons
grouped : (s o : List ℕ) → IsColonHex s o → whole_value (read_ipv6 s) ≡ Some o
grouped s o is = ap whole_value (subst (λ t. read_ipv6 t ≡ Some (o, [])) (append-nil s) (read_ipv6_complete s o [] is EndsGroups-nil))

not-dotted : (s : List ℕ) → ((o : List ℕ) → ¬ (IsDotted s o)) → whole_value (read_ipv4 s) ≡ None
not-dotted s none = nothing-whole s IsDotted (read_ipv4 s) (λ o rest. read_ipv4_sound s o rest) none

not-grouped : (s : List ℕ) → ((o : List ℕ) → ¬ (IsColonHex s o)) → whole_value (read_ipv6 s) ≡ None
not-grouped s none = nothing-whole s IsColonHex (read_ipv6 s) (λ o rest. read_ipv6_sound s o rest) none

pub address_dotted : (s o : List ℕ) → IsDotted s o → address_of_text s ≡ address_of (mapped o)
address_dotted s o is = ap (λ r. address_of_either r (whole_value (read_ipv6 s))) (dotted s o is)

pub address_grouped : (s o : List ℕ) → IsColonHex s o → address_of_text s ≡ address_of o
address_grouped s o is =
    ap (λ r. address_of_either r (whole_value (read_ipv6 s))) (not-dotted s (λ p d. IsDotted-not_colon_hex s p o d is))
    ∙ ap (address_of_either None) (grouped s o is)

pub no_address : (s : List ℕ) → ((a : IpAddr) → ¬ (IsIpText s a)) → address_of_text s ≡ Err reasons.Form
no_address s none =
    ap (λ r. address_of_either r (whole_value (read_ipv6 s))) (not-dotted s (λ o. none (Ip.V4 record { octets = o })))
    ∙ ap (address_of_either None) (not-grouped s (λ o. none (Ip.V6 record { segments = o })))
