-- Blocks that are read from their lines, and placed one behind another.
use Rattle.std.proofs.Common.{◌≡◌, ℕ, zero, suc, ◌+◌, ◌-◌, ◌*◌, ◌/◌, ◌^◌, ◌<◌, ◌≤◌, ◌==◌, nat_lt, Bool, inl, inr, true, false, List, [], ◌∷◌, ◌++◌, length, map, Option, Some, None, refl, sym, ◌∙◌, ap, arith, append_assoc, append-nil}
use Rattle.std.proofs.lemmas.Bool.{cases_lt}
use Rattle.std.proofs.lemmas.Option.{option_and_then_some, cond_some, same_Some}
use Rattle.std.proofs.lemmas.List.{map-append}
use Rattle.col_common.specs.Reading.{◌>>=◌, only_if, nothing_left, items, byte_at}
use Rattle.col_common.specs.VInt.{vint, groups}
use Rattle.col_common.proofs.VIntLemmas.{groups-last, more-parts}
use Rattle.col_bits.specs.Packed.{is_width}
use Rattle.col_model.specs.Line.{line_at}
use Rattle.col_model.specs.U64List.{LinearParams, params_at, width_at}
use Rattle.col_codecs.specs.declared.blockwise_linear.block.Block.{Block}
use Rattle.col_codecs.proofs.LinearReaderLemmas.{with_byte, with_line, with_intercept, with_slope, of_width}
use Rattle.col_codecs.specs.Blocks.{block_params, lines_of}

-- ---- a line takes three bytes at least

groups-shorter : (bytes : List ℕ) (n : ℕ) (rest : List ℕ) → groups bytes ≡ Some (n, rest) → length rest < length bytes
unfolding groups
groups-shorter [] n rest e = absurd (cc)
groups-shorter (b ∷ bytes) n rest e = elim (cases_lt b 128) [
  | inl h ↦ (let p = more-parts b bytes n rest h e in omega (arith, groups-shorter bytes p.0 rest p.2))
  | inr h ↦ (let same : (b - 128, bytes) ≡ (n, rest) = same_Some _ _ (sym (groups-last b bytes h) ∙ e) in
      omega (arith, ap (λ q. length q.1) same))
]

vint-shorter : (bytes : List ℕ) (p : ℕ × List ℕ) → vint bytes ≡ Some p → length p.1 < length bytes
vint-shorter bytes p e = option_and_then_some (λ q. only_if (nat_lt q.0 (2 ^ 64)) q) (groups bytes) p e (λ q f g.
    let same : q ≡ p = (cond_some (nat_lt q.0 (2 ^ 64)) q p g).1 in
    omega (arith, groups-shorter bytes q.0 q.1 f, ap (λ r. length r.1) same))

byte_at-shorter : (bytes : List ℕ) (w : ℕ × List ℕ) → byte_at bytes ≡ Some w → length w.1 < length bytes
byte_at-shorter [] w e = absurd (cc)
byte_at-shorter (b ∷ bytes) w e = let same : (b, bytes) ≡ w = same_Some _ _ e in omega (arith, ap (λ r. length r.1) same)

params_at-shorter : (bytes : List ℕ) (p : LinearParams × List ℕ) → params_at bytes ≡ Some p → 3 + length p.1 ≤ length bytes
unfolding params_at
params_at-shorter bytes p e =
    option_and_then_some with_line (line_at bytes) p e (λ line e1 e2.
    option_and_then_some with_slope (vint bytes) line e1 (λ slope f1 f2.
    option_and_then_some (with_intercept slope.0) (vint slope.1) line f2 (λ intercept g1 g2.
    option_and_then_some (with_byte line.0) (width_at line.1) p e2 (λ w h1 h2.
    option_and_then_some of_width (byte_at line.1) w h1 (λ byte k1 k2.
    let behind : length intercept.1 ≡ length line.1 = ap (λ q. length q.1) (same_Some ((slope.0, intercept.0), intercept.1) line g2) in
    let same : length byte.1 ≡ length w.1 = ap (λ q. length q.1) (cond_some (is_width byte.0) byte w k2).1 in
    let last : length w.1 ≡ length p.1 = ap (λ q. length q.1) (same_Some _ p h2) in
    omega (arith, vint-shorter bytes slope f1, vint-shorter slope.1 intercept g1, byte_at-shorter line.1 byte k1, behind, same, last))))))

items-shorter : (n : ℕ) (bytes : List ℕ) (p : List LinearParams × List ℕ) → items params_at n bytes ≡ Some p → 3 * n ≤ length bytes
unfolding items
items-shorter zero bytes p e = omega arith
items-shorter (suc n) bytes p e =
    option_and_then_some (λ l. items params_at n l.1 >>= λ q. Some (l.0 ∷ q.0, q.1)) (params_at bytes) p e (λ l f g.
    option_and_then_some (λ (q : List LinearParams × List ℕ). Some (l.0 ∷ q.0, q.1)) (items params_at n l.1) p g (λ q h k.
    omega (arith, params_at-shorter bytes l f, items-shorter n l.1 q h)))

-- too few bytes for the lines
pub lines_of-short : (n : ℕ) (bytes : List ℕ) → length bytes / 3 < n → lines_of n bytes ≡ None
lines_of-short n bytes h = by_items (items params_at n bytes) (λ p e. items-shorter n bytes p e)
  where
    by_items : (o : Option (List LinearParams × List ℕ))
        → ((p : List LinearParams × List ℕ) → o ≡ Some p → 3 * n ≤ length bytes) → (o >>= nothing_left) ≡ None
    by_items None f = refl
    by_items (Some p) f = absurd (omega (arith, f p refl, h))

-- ---- lines one after another

-- lines in front of others
abbrev pub with_lines : List LinearParams → List LinearParams → Option (List LinearParams)
with_lines before ls = Some (before ++ ls)

lines_of-next : (n : ℕ) (bytes rest : List ℕ) (l : LinearParams) → params_at bytes ≡ Some (l, rest)
    → lines_of (suc n) bytes ≡ (lines_of n rest >>= λ ls. Some (l ∷ ls))
unfolding items
lines_of-next n bytes rest l e = rw e (behind (items params_at n rest))
  where
    by_test : (b : Bool) (ls : List LinearParams) → only_if b (l ∷ ls) ≡ (only_if b ls >>= λ ms. Some (l ∷ ms))
    by_test true ls = refl
    by_test false ls = refl

    behind : (o : Option (List LinearParams × List ℕ))
        → ((o >>= λ q. Some (l ∷ q.0, q.1)) >>= nothing_left) ≡ ((o >>= nothing_left) >>= λ ls. Some (l ∷ ls))
    behind None = refl
    behind (Some q) = by_test (length q.1 == 0) q.0

lines_of-stuck : (n : ℕ) (bytes : List ℕ) → params_at bytes ≡ None → lines_of (suc n) bytes ≡ None
unfolding items
lines_of-stuck n bytes e = rw e refl

-- What k lines that were read come to with the others, of n in all.
abbrev pub AreRead : ℕ → List ℕ → ℕ → List Block → List ℕ → Type 0
AreRead n bytes k bs rest = lines_of n bytes ≡ (lines_of (n - k) rest >>= with_lines (map block_params bs))

-- one line more
pub AreRead-push : (n : ℕ) (bytes : List ℕ) (k : ℕ) (bs : List Block) (rest more : List ℕ) (b : Block)
    → AreRead n bytes k bs rest → k < n → params_at rest ≡ Some (block_params b, more)
    → AreRead n bytes (k + 1) (bs ++ b ∷ []) more
AreRead-push n bytes k bs rest more b h p e =
    let left : n - k ≡ suc (n - (k + 1)) = omega arith in
    h ∙ ap (λ m. lines_of m rest >>= with_lines (map block_params bs)) left
    ∙ ap (λ o. o >>= with_lines (map block_params bs)) (lines_of-next (n - (k + 1)) rest more (block_params b) e)
    ∙ joined (lines_of (n - (k + 1)) more)
  where
    joined : (o : Option (List LinearParams))
        → ((o >>= λ ls. Some (block_params b ∷ ls)) >>= with_lines (map block_params bs))
        ≡ (o >>= with_lines (map block_params (bs ++ b ∷ [])))
    joined None = refl
    joined (Some ls) =
        ap Some (sym (ap (λ m. m ++ ls) (map-append block_params bs (b ∷ []))
        ∙ append_assoc (map block_params bs) (block_params b ∷ []) ls))

-- no line is there
pub AreRead-stuck : (n : ℕ) (bytes : List ℕ) (k : ℕ) (bs : List Block) (rest : List ℕ) → AreRead n bytes k bs rest
    → k < n → params_at rest ≡ None → lines_of n bytes ≡ None
AreRead-stuck n bytes k bs rest h p e =
    let left : n - k ≡ suc (n - (k + 1)) = omega arith in
    h ∙ ap (λ m. lines_of m rest >>= with_lines (map block_params bs)) left
    ∙ ap (λ o. o >>= with_lines (map block_params bs)) (lines_of-stuck (n - (k + 1)) rest e)

AreRead-all : (n : ℕ) (bytes : List ℕ) (k : ℕ) (bs : List Block) (rest : List ℕ) → AreRead n bytes k bs rest → n ≤ k
    → lines_of n bytes ≡ (only_if (length rest == 0) [] >>= with_lines (map block_params bs))
unfolding items
AreRead-all n bytes k bs rest h p =
    let none : n - k ≡ 0 = omega arith in h ∙ ap (λ m. lines_of m rest >>= with_lines (map block_params bs)) none

-- all lines are read, and nothing is left
pub AreRead-end : (n : ℕ) (bytes : List ℕ) (k : ℕ) (bs : List Block) (rest : List ℕ) (b test : Bool)
    → AreRead n bytes k bs rest → n ≤ k → test ≡ (length rest == 0) → test ≡ b
    → lines_of n bytes ≡ only_if b (map block_params bs)
AreRead-end n bytes k bs rest b test h p e t =
    AreRead-all n bytes k bs rest h p ∙ ap (λ c. only_if c [] >>= with_lines (map block_params bs)) (sym e ∙ t)
    ∙ by_test b
  where
    by_test : (c : Bool) → (only_if c [] >>= with_lines (map block_params bs)) ≡ only_if c (map block_params bs)
    by_test true = ap Some (append-nil (map block_params bs))
    by_test false = refl
