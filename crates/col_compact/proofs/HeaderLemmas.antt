-- Headers, and the bytes behind them.
use Rattle.std.proofs.Common.{◌≡◌, ℕ, ◌+◌, ◌-◌, ◌^◌, ◌<◌, ◌≤◌, ◌==◌, ◌&&◌, List, [], ◌∷◌, ◌++◌, length, drop, Option, Some, true, sym, ◌∙◌, ap, append_assoc, length-append, arith}
use Rattle.std.specs.Prelude.{nat_lt}
use Rattle.std.proofs.lemmas.Bool.{and_parts, eqb-true, lt-ltb}
use Rattle.std.proofs.lemmas.Option.{option_and_then_some, cond_some, same_Some}
use Rattle.std.proofs.lemmas.List.Elements.{All-from_recursion}
use Rattle.std.proofs.Math.Seq.{drop-append_seam}
use Rattle.col_common.specs.Reading.{◌>>=◌, IsBytes, only_if, byte_at}
use Rattle.col_common.specs.VInt.{vint, vint_bytes}
use Rattle.col_common.proofs.VIntLemmas.{vint_bytes-vint}
use Rattle.col_model.specs.Stats.{least_of, greatest_of}
use Rattle.col_model.specs.AddressList.{header_at}
use Rattle.col_model.proofs.StatsLaws.{fold-min, fold-max, all_by}
use Rattle.col_values.specs.Codes.{is_below}
use Rattle.col_values.specs.Monotonic.{Passes, AllMapped}

abbrev with_kind : ℕ → ℕ × List ℕ → Option (ℕ × List ℕ)
with_kind n kind = only_if (nat_lt n (2 ^ 32) && (kind.0 == 1)) (n, kind.1)

abbrev with_number : ℕ × List ℕ → Option (ℕ × List ℕ)
with_number n = byte_at n.1 >>= with_kind n.0

byte_in_front : (bytes rest : List ℕ) (b : ℕ) → byte_at bytes ≡ Some (b, rest) → bytes ≡ b ∷ rest
byte_in_front [] rest b e = cc
byte_in_front (c ∷ bytes) rest b e = let p = same_Some _ _ e in λ i. (p i).0 ∷ (p i).1

-- a header is a number and the byte 1
header-spelled : (bytes rest : List ℕ) (n : ℕ) → IsBytes bytes → header_at bytes ≡ Some (n, rest) → bytes ≡ vint_bytes n ++ (1 ∷ rest)
header-spelled bytes rest n b e =
    option_and_then_some with_number (vint bytes) (n, rest) e (λ number o f.
    option_and_then_some (with_kind number.0) (byte_at number.1) (n, rest) f (λ kind p g.
    let found = cond_some (nat_lt number.0 (2 ^ 32) && (kind.0 == 1)) (number.0, kind.1) (n, rest) g in
    let one : kind.0 ≡ 1 = eqb-true kind.0 1 (and_parts (nat_lt number.0 (2 ^ 32)) (kind.0 == 1) found.0).1 in
    let same : number.0 ≡ n = ap (λ x. x.0) found.1 in
    let tail : kind.1 ≡ rest = ap (λ x. x.1) found.1 in
    vint_bytes-vint bytes number.0 number.1 b o
    ∙ ap (λ m. vint_bytes m ++ number.1) same
    ∙ ap (λ xs. vint_bytes n ++ xs) (byte_in_front number.1 kind.1 kind.0 p ∙ (λ i. one i ∷ tail i))))

-- what stands behind a header ends with the bytes
pub header-behind : (bytes rest : List ℕ) (n : ℕ) → IsBytes bytes → header_at bytes ≡ Some (n, rest)
    → (length rest ≤ length bytes) × (drop (length bytes - length rest) bytes ≡ rest)
header-behind bytes rest n b e =
    let front = vint_bytes n ++ 1 ∷ [] in
    let spelled : bytes ≡ front ++ rest = header-spelled bytes rest n b e ∙ sym (append_assoc (vint_bytes n) (1 ∷ []) rest) in
    let long : length bytes ≡ length front + length rest = ap length spelled ∙ length-append front rest in
    let start : length bytes - length rest ≡ length front = omega (arith, long) in
    (omega (arith, long), ap (λ k. drop k bytes) start ∙ ap (drop (length front)) spelled ∙ drop-append_seam front rest)

-- ---- numbers of 128 bits

below : (limit a b : ℕ) → a ≤ b → b < limit → is_below limit a ≡ true
below limit a b h k = lt-ltb a limit (omega arith)

-- numbers whose greatest is below 2 ^ 128 are all below it, and so are their least and their
-- greatest
pub numbers-mapped : (xs : List ℕ) (greatest : ℕ) → greatest ≡ greatest_of xs → greatest < 2 ^ 128
    → AllMapped (is_below (2 ^ 128)) xs (λ v. v ≡ least_of xs) (λ v. v ≡ greatest_of xs)
numbers-mapped xs greatest e fits = record {
  each =
      All-from_recursion (Passes (is_below (2 ^ 128))) xs
      (all_by (λ x h. below (2 ^ 128) x greatest (omega (arith, h, e)) fits) xs (fold-max 0 xs).1);
  least = λ x some is. below (2 ^ 128) x greatest (let h = low xs some in omega (arith, h, is, e)) fits;
  greatest = λ x some is. below (2 ^ 128) x greatest (omega (arith, is, e)) fits;
}
  where
    low : (ys : List ℕ) → 0 < length ys → least_of ys ≤ greatest_of ys
    low [] some = absurd (omega (arith, some))
    low (y ∷ ys) some = let first = (fold-min y ys).0 in let last = (fold-max 0 (y ∷ ys)).1.0 in omega (arith, first, last)
