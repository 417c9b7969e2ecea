-- Headings.
use Rattle.std.proofs.Common.{◌≡◌, ◌+◌, ◌-◌, ◌==◌, ◌∙◌, ℕ, List, length, take, drop, codes, Option, Some, None, refl, sym, ap, subst, arith}
use Rattle.std.specs.Prelude.{position}
use Rattle.std.specs.Str.{IsUtf8, is_utf8, chars}
use lib.Utf8.{encode}
use Rattle.std.proofs.lemmas.List.{take_all, length-drop}
use Rattle.std.proofs.lemmas.Str.{IsUtf8-from_is_utf8}
use Rattle.col_common.specs.Reading.{◌>>=◌}
use Rattle.col_program.specs.Values.{type_named}
use Rattle.col_questions.proofs.WordLemmas.{no_type}
use Rattle.col_csv.specs.Csv.{colon}
use Rattle.col_csv_fields.specs.Fields.{parts_at_colon}

-- no colon
pub no-parts : (s : List ℕ) (o : Option ℕ) → o ≡ position (λ b. b == colon) s → o ≡ None → None ≡ parts_at_colon s
no-parts s o is none = ap (λ o. o >>= λ i. Some (take i s, drop (i + 1) s)) (sym none ∙ is)

-- a colon
pub parts-found : (s : List ℕ) (o : Option ℕ) (i : ℕ) → o ≡ position (λ b. b == colon) s → o ≡ Some i
    → Some (take i s, take (length s - (i + 1)) (drop (i + 1) s)) ≡ parts_at_colon s
parts-found s o i is found =
    let rest : take (length s - (i + 1)) (drop (i + 1) s) ≡ drop (i + 1) s =
    take_all (length s - (i + 1)) (drop (i + 1) s) (omega (arith, length-drop (i + 1) s)) in
    ap (λ d. Some (take i s, d)) rest ∙ ap (λ o. o >>= λ i. Some (take i s, drop (i + 1) s)) (sym found ∙ is)

-- the names of types are UTF-8
pub no-word : (s : List ℕ) → (IsUtf8 s → ⊥) → type_named s ≡ None
unfolding is_utf8 chars encode
no-word s other =
    no_type s (λ e. other (subst IsUtf8 (sym e) (IsUtf8-from_is_utf8 (codes "i64") refl)))
    (λ e. other (subst IsUtf8 (sym e) (IsUtf8-from_is_utf8 (codes "u64") refl)))
    (λ e. other (subst IsUtf8 (sym e) (IsUtf8-from_is_utf8 (codes "bytes") refl)))
    (λ e. other (subst IsUtf8 (sym e) (IsUtf8-from_is_utf8 (codes "str") refl)))
    (λ e. other (subst IsUtf8 (sym e) (IsUtf8-from_is_utf8 (codes "bool") refl)))
    (λ e. other (subst IsUtf8 (sym e) (IsUtf8-from_is_utf8 (codes "ip") refl)))
    (λ e. other (subst IsUtf8 (sym e) (IsUtf8-from_is_utf8 (codes "datetime") refl)))
