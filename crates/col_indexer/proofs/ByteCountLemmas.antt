-- How many bytes the lists of an index take.
use Rattle.std.proofs.Common.{◌≡◌, ℕ, suc, ◌+◌, ◌-◌, ◌*◌, ◌/◌, ◌^◌, ◌≤◌, ◌&&◌, Bool, true, false, cond, List, [], ◌∷◌, ◌++◌, length, Option, Some, None, refl, sym, ap, ◌∙◌, arith, length-append, subst, nat_le, nat_lt, unwrap_or}
use Rattle.std.proofs.lemmas.Option.{same_Some, none-some}
use Rattle.std.proofs.Math.Nat.{mul-le-mul_left}
use Rattle.col_bits.proofs.PackedLemmas.{length-digits}
use Rattle.col_common.specs.VInt.{vint_bytes}
use Rattle.col_model.specs.Packed.{width, is_width, packed_bytes, number_of}
use Rattle.col_model.specs.Stats.{Stats, stats_of, steps_of, stats_bytes}
use Rattle.col_model.specs.U64List.{LinearParams}
use Rattle.col_model.specs.Codecs.{chosen_codec, chosen_before, is_not_below, estimate, bitpacked_estimate, linear_estimate, bitpacked_body, linear_body, linear_line, params_bytes, packed_len, packed_offsets, line_len, stats_len, steps_above, offsets_from, codec_bytes, block_size}
use Rattle.col_model.proofs.BlockLaws.{vint_bytes-most}
use Rattle.col_model.proofs.CodecLaws.{is_width-width, linear_line-writable}
use Rattle.col_model.proofs.LinearLaws.{length-offsets_from}
use Rattle.std.proofs.lemmas.List.{length-map}
use Rattle.col_model.proofs.WidthLaws.{width-most}
use Rattle.col_indexer.specs.Spelling.{index_codecs, index_list_bytes}

-- ---- a body is as long as its estimate

packed_bytes-length : (w : ℕ) (xs : List ℕ) → length (packed_bytes w xs) ≡ packed_len (length xs) w
packed_bytes-length w xs = length-digits 256 (packed_len (length xs) w) (number_of (2 ^ w) xs)

steps_above-length : (s : Stats) (xs : List ℕ) → length (steps_above s xs) ≡ length xs
steps_above-length s xs = length-map xs (λ x. (x - s.least) / s.divisor)

bitpacked-length : (xs : List ℕ) → length (bitpacked_body xs) ≡ bitpacked_estimate xs
unfolding bitpacked_body bitpacked_estimate
bitpacked-length xs =
    let s = stats_of xs in
    length-append (stats_bytes s) _
    ∙ ap (λ n. length (stats_bytes s) + n) (packed_bytes-length (width (steps_of s)) (steps_above s xs)
    ∙ ap (λ n. packed_len n (width (steps_of s))) (steps_above-length s xs))

offsets-length : (l : LinearParams) (xs : List ℕ) → length (packed_offsets l xs) ≡ packed_len (length xs) l.offset_width
offsets-length l xs =
    packed_bytes-length l.offset_width (offsets_from l xs)
    ∙ ap (λ n. packed_len n l.offset_width) (length-offsets_from l xs)

slope-length : (l : LinearParams) → length (params_bytes l) ≡ line_len l + 1
unfolding params_bytes
slope-length l =
    length-append (vint_bytes l.slope) _
    ∙ ap (λ n. length (vint_bytes l.slope) + n) (length-append (vint_bytes l.intercept) (l.offset_width ∷ []))
    ∙ omega arith

-- what Linear takes where it applies
abbrev linear_len : List ℕ → ℕ
linear_len xs = let l = linear_line xs in stats_len xs + line_len l + 1 + packed_len (length xs) l.offset_width

linear-length : (xs : List ℕ) → length (linear_body xs) ≡ linear_len xs
unfolding linear_body
linear-length xs =
    let l = linear_line xs in
    length-append (stats_bytes (stats_of xs)) _
    ∙ ap (λ n. stats_len xs + n) (length-append (params_bytes l) (packed_offsets l xs)
    ∙ ap (λ n. n + length (packed_offsets l xs)) (slope-length l)
    ∙ ap (λ n. line_len l + 1 + n) (offsets-length l xs))
    ∙ omega arith

linear-estimated : (xs : List ℕ) (e : ℕ) → linear_estimate xs ≡ Some e → length (linear_body xs) ≡ e
unfolding linear_estimate
linear-estimated xs e p = linear-length xs ∙ by_test (nat_lt (length xs) block_size) p
  where
    by_test : (b : Bool) → cond b None (Some (linear_len xs)) ≡ Some e → linear_len xs ≡ e
    by_test true q = absurd (none-some e q)
    by_test false q = same_Some _ _ q

-- ---- which codec is chosen

-- it is one of the two, and its estimate is how long the body is
pub record IsPicked (xs : List ℕ) (codec : ℕ) : Type 0 where
  pub bytes : ℕ
  pub estimated : estimate xs codec ≡ Some bytes
  pub long : length (codec_bytes codec xs) ≡ 1 + bytes
  pub most : bytes ≤ 115 + 8 * length xs

packed_len-most : (n w : ℕ) → is_width w ≡ true → packed_len n w ≤ 8 * n
packed_len-most n w e = omega (arith, mul-le-mul_left n (width-most w e))

stats_len-most : (xs : List ℕ) → stats_len xs ≤ 76
stats_len-most xs =
    let s = stats_of xs in
    omega (
      arith,
      length-append (vint_bytes s.least) (vint_bytes s.divisor ++ (vint_bytes (steps_of s) ++ vint_bytes s.count)),
      length-append (vint_bytes s.divisor) (vint_bytes (steps_of s) ++ vint_bytes s.count),
      length-append (vint_bytes (steps_of s)) (vint_bytes s.count),
      vint_bytes-most s.least,
      vint_bytes-most s.divisor,
      vint_bytes-most (steps_of s),
      vint_bytes-most s.count,
    )

bitpacked-picked : (xs : List ℕ) → IsPicked xs 0
unfolding bitpacked_estimate
bitpacked-picked xs = record {
  bytes = bitpacked_estimate xs;
  estimated = refl;
  long = ap suc (bitpacked-length xs) ∙ omega arith;
  most =
      omega (
        arith,
        stats_len-most xs,
        packed_len-most (length xs) (width (steps_of (stats_of xs))) (is_width-width (steps_of (stats_of xs))),
      );
}

linear-picked : (xs : List ℕ) (e : ℕ) → linear_estimate xs ≡ Some e → IsPicked xs 1
linear-picked xs e p =
    let l = linear_line xs in
    let long = linear-estimated xs e p in
    record {
      bytes = e;
      estimated = p;
      long = ap suc long ∙ omega arith;
      most =
          omega (
            arith,
            sym long ∙ linear-length xs,
            stats_len-most xs,
            vint_bytes-most l.slope,
            vint_bytes-most l.intercept,
            packed_len-most (length xs) l.offset_width (linear_line-writable xs).offset_width,
          );
    }

abbrev Picks : List ℕ → Option ℕ → Type 0
Picks xs c = (codec : ℕ) × (c ≡ Some codec) × IsPicked xs codec

-- some codec of those for an index is chosen for each list
pub index_codec : (xs : List ℕ) → Picks xs (chosen_codec xs index_codecs)
unfolding chosen_codec
index_codec xs = by_estimate (linear_estimate xs) refl
  where
    by_test : (e : ℕ) → linear_estimate xs ≡ Some e → (b : Bool) → Picks xs (cond (b && true) (Some 0) (Some 1))
    by_test e p true = (0, refl, bitpacked-picked xs)
    by_test e p false = (1, refl, linear-picked xs e p)

    by_estimate : (o : Option ℕ) → linear_estimate xs ≡ o
        → Picks xs (chosen_before xs 0 (1 ∷ []) (chosen_before xs 1 [] None o) (Some (bitpacked_estimate xs)))
    by_estimate None p = (0, ap (λ q. cond (is_not_below (bitpacked_estimate xs) q && true) (Some 0) None) p, bitpacked-picked xs)
    by_estimate (Some e) p =
        subst (λ q. Picks xs (cond (is_not_below (bitpacked_estimate xs) q && true) (Some 0) (Some 1))) (sym p)
        (by_test e p (nat_le (bitpacked_estimate xs) e))

-- a list of an index is spelled under the codec that is chosen
pub list_bytes-picked : (xs : List ℕ) (codec : ℕ) → chosen_codec xs index_codecs ≡ Some codec → index_list_bytes xs ≡ codec_bytes codec xs
unfolding index_list_bytes
list_bytes-picked xs codec e = ap (λ c. codec_bytes (unwrap_or c 0) xs) e

-- a list of an index takes at most 116 bytes and eight for each item
pub list_bytes-most : (xs : List ℕ) → length (index_list_bytes xs) ≤ 116 + 8 * length xs
list_bytes-most xs =
    let p = index_codec xs in
    omega (arith, ap length (list_bytes-picked xs p.0 p.1) ∙ p.2.long, p.2.most)
