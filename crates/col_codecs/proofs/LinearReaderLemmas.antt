-- Lists under Linear that are read in place.
use Rattle.std.proofs.Common.{◌≡◌, ℕ, ◌+◌, ◌-◌, ◌*◌, ◌<◌, ◌≤◌, ◌&&◌, Bool, true, false, List, [], ◌∷◌, ◌++◌, map, length, take, drop, get_or, slice_get, Option, Some, None, refl, sym, ap, ap₂, ◌∙◌, subst, arith, append_assoc, length-append}
use Rattle.std.specs.List.{range_with_len}
use Rattle.std.proofs.lemmas.List.{same_lists, get_or_default}
use Rattle.std.proofs.lemmas.List.FromFn.{length-map-range_with_len, get_or-map-range_with_len}
use Rattle.std.proofs.lemmas.Bool.{and_parts}
use Rattle.std.proofs.lemmas.Option.{option_and_then_some, cond_some, same_Some, slice_get-get_or}
use Rattle.col_common.specs.Reading.{◌>>=◌, only_if, IsBytes, byte_at}
use Rattle.col_common.specs.VInt.{vint, vint_bytes}
use Rattle.col_common.proofs.VIntLemmas.{vint_bytes-vint}
use Rattle.col_bits.specs.Packed.{is_width, is_packed}
use Rattle.col_model.specs.Stats.{Stats, stats_of, same_stats}
use Rattle.col_model.specs.Line.{line_at}
use Rattle.col_model.specs.U64List.{LinearParams as LineAndWidth, width_at, params_at}
use Rattle.col_model.specs.Items.{linear_item, linear_items}
use Rattle.col_model.proofs.OneFormLaws.{IsBytes-behind, same_stats-equal}
use Rattle.col_model.proofs.ItemLaws.{linear_values-some, linear_values-none, length-linear_items, linear_items-at}
use Rattle.std.proofs.Math.Seq.{drop-append_seam}
use Rattle.col_codecs.specs.Header.{list_by}
use Rattle.col_codecs.proofs.ListLemmas.{range-part}

-- ---- what stands behind a line

-- the steps of `params_at`
abbrev pub with_byte : ℕ × ℕ → ℕ × List ℕ → Option (LineAndWidth × List ℕ)
with_byte l w = Some (record { slope = l.0; intercept = l.1; offset_width = w.0 }, w.1)

-- a slope and an intercept with the width behind them
abbrev pub with_line : (ℕ × ℕ) × List ℕ → Option (LineAndWidth × List ℕ)
with_line l = width_at l.1 >>= with_byte l.0

-- the intercept behind a slope
abbrev pub with_intercept : ℕ → ℕ × List ℕ → Option ((ℕ × ℕ) × List ℕ)
with_intercept slope intercept = Some ((slope, intercept.0), intercept.1)

-- a slope with the intercept behind it
abbrev pub with_slope : ℕ × List ℕ → Option ((ℕ × ℕ) × List ℕ)
with_slope slope = vint slope.1 >>= with_intercept slope.0

-- a byte that can be a width
abbrev pub of_width : ℕ × List ℕ → Option (ℕ × List ℕ)
of_width w = only_if (is_width w.0) w

after-byte : (bytes : List ℕ) (w : ℕ × List ℕ) → byte_at bytes ≡ Some w → bytes ≡ w.0 ∷ w.1
after-byte [] w e = absurd (cc)
after-byte (b ∷ bytes) w e = let same : (b, bytes) ≡ w = cc in ap (λ p. p.0 ∷ p.1) same

-- a line and what is behind it
params_at-front : (bytes rest : List ℕ) (l : LineAndWidth) → IsBytes bytes → params_at bytes ≡ Some (l, rest)
    → (front : List ℕ) × (bytes ≡ front ++ rest)
unfolding params_at
params_at-front bytes rest l b e =
    option_and_then_some with_line (line_at bytes) (l, rest) e (λ line e1 e2.
    option_and_then_some with_slope (vint bytes) line e1 (λ slope f1 f2.
    option_and_then_some (with_intercept slope.0) (vint slope.1) line f2 (λ intercept g1 g2.
    option_and_then_some (with_byte line.0) (width_at line.1) (l, rest) e2 (λ w h1 h2.
    option_and_then_some of_width (byte_at line.1) w h1 (λ byte k1 k2.
    let first : bytes ≡ vint_bytes slope.0 ++ slope.1 = vint_bytes-vint bytes slope.0 slope.1 b f1 in
    let are = IsBytes-behind (vint_bytes slope.0) slope.1 (subst IsBytes first b) in
    let second : slope.1 ≡ vint_bytes intercept.0 ++ intercept.1 = vint_bytes-vint slope.1 intercept.0 intercept.1 are g1 in
    let behind : intercept.1 ≡ line.1 = ap (λ p. p.1) (same_Some ((slope.0, intercept.0), intercept.1) line g2) in
    let third : line.1 ≡ byte.0 ∷ byte.1 = after-byte line.1 byte k1 in
    let same : byte ≡ w = (cond_some (is_width byte.0) byte w k2).1 in
    let last : w.1 ≡ rest = ap (λ p. p.1) (same_Some _ (l, rest) h2) in
    let whole : slope.1 ≡ vint_bytes intercept.0 ++ (byte.0 ∷ rest) = second ∙ ap (λ ys. vint_bytes intercept.0 ++ ys)
    (behind ∙ third ∙ ap (λ ys. byte.0 ∷ ys) (ap (λ p. p.1) same ∙ last)) in (
      vint_bytes slope.0 ++ (vint_bytes intercept.0 ++ (byte.0 ∷ [])),
      first ∙ ap (λ ys. vint_bytes slope.0 ++ ys) whole ∙ regroup (vint_bytes slope.0) (vint_bytes intercept.0) byte.0 rest,
    ))))))
  where
    regroup : (xs ys : List ℕ) (z : ℕ) (zs : List ℕ) → xs ++ (ys ++ (z ∷ zs)) ≡ (xs ++ (ys ++ (z ∷ []))) ++ zs
    regroup xs ys z zs = sym (append_assoc xs (ys ++ (z ∷ [])) zs ∙ ap (λ ts. xs ++ ts) (append_assoc ys (z ∷ []) zs))

-- what is left behind a line is the end of the bytes
pub params_at-behind : (bytes rest : List ℕ) (l : LineAndWidth) → IsBytes bytes → params_at bytes ≡ Some (l, rest)
    → (length rest ≤ length bytes) × (drop (length bytes - length rest) bytes ≡ rest)
params_at-behind bytes rest l b e =
    let f = params_at-front bytes rest l b e in
    let long : length bytes ≡ length f.0 + length rest = ap length f.1 ∙ length-append f.0 rest in
    let start : length bytes - length rest ≡ length f.0 = omega (arith, long) in
    (omega (arith, long), ap (λ n. drop n bytes) start ∙ ap (drop (length f.0)) f.1 ∙ drop-append_seam f.0 rest)

-- ---- the list behind statistics

-- bytes that spell no line stand for no list
pub list_by-no_line : (s : Stats) (bytes : List ℕ) → params_at bytes ≡ None → list_by 1 s bytes ≡ None
unfolding list_by
list_by-no_line s bytes e = rw (linear_values-none s bytes e) refl

-- the bytes are packed offsets from the line, and the statistics are those of the items
abbrev pub is_list : Stats → LineAndWidth → List ℕ → Bool
is_list s l rest = is_packed rest (s.count * l.offset_width) && same_stats (stats_of (linear_items l rest s.count)) s

-- a list that passes a test, and then that of its statistics, passes both
pub checked-both : (s : Stats) (b : Bool) (xs : List ℕ)
    → (only_if b xs >>= λ ys. only_if (same_stats (stats_of ys) s) ys)
    ≡ only_if (b && same_stats (stats_of xs) s) xs
checked-both s true xs = refl
checked-both s false xs = refl

pub list_by-line : (s : Stats) (bytes rest : List ℕ) (l : LineAndWidth) → params_at bytes ≡ Some (l, rest)
    → list_by 1 s bytes ≡ only_if (is_list s l rest) (linear_items l rest s.count)
unfolding list_by
list_by-line s bytes rest l e =
    rw (linear_values-some s bytes l rest e)
    (checked-both s (is_packed rest (s.count * l.offset_width)) (linear_items l rest s.count))

-- the same by a cut of the bytes
pub list_by-cut : (s : Stats) (bytes rest read : List ℕ) (l : LineAndWidth) → params_at bytes ≡ Some (l, rest)
    → read ≡ rest → list_by 1 s bytes ≡ only_if (is_list s l read) (linear_items l read s.count)
list_by-cut s bytes rest read l e same =
    list_by-line s bytes rest l e ∙ ap (λ b. only_if (is_list s l b) (linear_items l b s.count)) (sym same)

-- the list by its two tests
pub only_if-tests : (s : Stats) (l : LineAndWidth) (bytes : List ℕ) (packed same : Bool)
    → is_packed bytes (s.count * l.offset_width) ≡ packed
    → same_stats (stats_of (linear_items l bytes s.count)) s ≡ same
    → only_if (is_list s l bytes) (linear_items l bytes s.count)
    ≡ only_if (packed && same) (linear_items l bytes s.count)
only_if-tests s l bytes packed same e f = ap₂ (λ p q. only_if (p && q) (linear_items l bytes s.count)) e f

-- the test of statistics that were found at a width
pub same_stats-found : (s found : Stats) (l : LineAndWidth) (bytes : List ℕ) (w : ℕ) (b test : Bool)
    → w ≡ l.offset_width → found ≡ stats_of (linear_items (record l { offset_width = w }) bytes s.count)
    → test ≡ same_stats found s → test ≡ b → same_stats (stats_of (linear_items l bytes s.count)) s ≡ b
same_stats-found s found l bytes w b test wide stats is t =
    ap (λ v. same_stats (stats_of (linear_items (record l { offset_width = v }) bytes s.count)) s) (sym wide)
    ∙ ap (λ f. same_stats f s) (sym stats) ∙ sym is ∙ t

-- the statistics of a list that passed both tests
pub exact-stats : (s : Stats) (l : LineAndWidth) (bytes read : List ℕ) (w : ℕ) → read ≡ bytes → w ≡ l.offset_width
    → is_list s l read ≡ true → s ≡ stats_of (linear_items (record l { offset_width = w }) bytes s.count)
exact-stats s l bytes read w same wide tests =
    let both = and_parts (is_packed read (s.count * l.offset_width)) (same_stats (stats_of (linear_items l read s.count)) s) tests in
    sym (ap (λ v. stats_of (linear_items (record l { offset_width = v }) bytes s.count)) wide
    ∙ ap (λ b. stats_of (linear_items l b s.count)) (sym same)
    ∙ same_stats-equal (stats_of (linear_items l read s.count)) s both.1)

-- ---- items

-- a part of the items
pub linear_items-part : (l : LineAndWidth) (bytes : List ℕ) (n start m : ℕ) → start + m ≤ n
    → map (linear_item l bytes) (range_with_len start m) ≡ take m (drop start (linear_items l bytes n))
linear_items-part l bytes n start m h = range-part (linear_item l bytes) n start m h

-- the item at a position below n is the one that the line's bytes have there
pub linear_items-get : (l : LineAndWidth) (bytes : List ℕ) (n i x : ℕ) → i < n → x ≡ linear_item l bytes i
    → slice_get (linear_items l bytes n) i ≡ Some x
linear_items-get l bytes n i x h e =
    let within : i < length (linear_items l bytes n) = rw (length-linear_items l bytes n) h in
    slice_get-get_or (linear_items l bytes n) i 0 within ∙ ap Some (linear_items-at l bytes n i h ∙ sym e)

-- what is written at each place
pub filled_from : (f : ℕ → ℕ) (start m : ℕ) (xs : List ℕ) → length xs ≡ m
    → ((k : ℕ) → k < m → get_or xs k 0 ≡ f (start + k)) → xs ≡ map f (range_with_len start m)
filled_from f start m xs long each =
    same_lists xs (map f (range_with_len start m)) (long ∙ sym (length-map-range_with_len f start m))
    (λ k d w.
    let within : k < m = omega (arith, w, long) in
    get_or_default xs k d 0 w ∙ each k within ∙ sym (get_or-map-range_with_len f start m k (start + k) d within refl))
