-- Codes that are read, and lookups by codes.
use Rattle.std.proofs.Common.{◌≡◌, ℕ, ◌+◌, ◌-◌, ◌^◌, ◌<◌, ◌≤◌, ◌==◌, ◌&&◌, Bool, true, false, List, length, map, min, slice_index, slice_get, Option, Some, None, refl, sym, ◌∙◌, ap, subst, inl, inr, arith}
use Rattle.std.specs.Prelude.{option_map, ◌⊎◌}
use Rattle.std.specs.Int.{w64, is_in_range}
use Rattle.std.specs.List.{list_all}
use Rattle.std.proofs.lemmas.Bool.{cases_lt, and_parts}
use Rattle.std.proofs.lemmas.Option.{slice_get-map, slice_get-get_or, same_Some, none-some, slice_get_past}
use Rattle.std.proofs.lemmas.List.{length-map}
use Rattle.std.proofs.lemmas.List.FromFn.{get_or-map-range_with_len}
use Rattle.std.proofs.lemmas.List.Elements.{All-get_or, All-from_recursion}
use Rattle.col_common.specs.Reading.{◌>>=◌, only_if, parts_by_second}
use Rattle.col_bits.specs.Packed.{item, items, packed, ids_between}
use Rattle.col_model.specs.Stats.{least_of, greatest_of}
use Rattle.col_model.specs.AddressList.{AddressFooter, address_footer, coded_values, values128, header_at, code_count, coded_number}
use Rattle.col_values.specs.Codes.{number_cmp}
use Rattle.col_values.specs.Values.{passes, is_between, hits, hits_between, span}
use Rattle.col_values.proofs.HitLemmas.{rows_same, in_between}
use Rattle.col_compact.specs.Coded.{Coded, numbers_of, are_codes, coded_by, coded_list, headed_list, with_codes, coded_in, IsReader}
use Rattle.col_compact.proofs.CodedLemmas.{all_codes, length_items}

-- ---- numbers are those of the codes

number_by : AddressFooter → List ℕ → Option (List ℕ)
number_by f codes =
    only_if (list_all (is_in_range 1 (code_count f.ranges)) codes
    && (least_of (map (coded_number f.ranges) codes) == f.least)
    && (greatest_of (map (coded_number f.ranges) codes) == f.greatest)) (map (coded_number f.ranges) codes)

abbrev to_numbers : Coded → Option (List ℕ)
to_numbers d = Some (numbers_of d)

by_test : (f : AddressFooter) (codes : List ℕ) (b : Bool)
    → only_if b (map (coded_number f.ranges) codes)
    ≡ (only_if b (record { ranges = f.ranges; codes = codes }) >>= to_numbers)
by_test f codes true = refl
by_test f codes false = refl

by_codes : (f : AddressFooter) (o : Option (List ℕ))
    → (o >>= number_by f)
    ≡ (o >>= (λ codes. only_if (are_codes f codes) (record { ranges = f.ranges; codes = codes })) >>= to_numbers)
unfolding number_by
by_codes f None = refl
by_codes f (Some codes) = by_test f codes (are_codes f codes)

abbrev numbers_by : List ℕ → AddressFooter → Option (List ℕ)
numbers_by codes f = packed codes f.code_width f.count >>= number_by f

by_footer : (codes : List ℕ) (o : Option AddressFooter) → (o >>= numbers_by codes)
    ≡ (o >>= (λ f. packed codes f.code_width f.count >>=
    λ found. only_if (are_codes f found) (record { ranges = f.ranges; codes = found })) >>= to_numbers)
by_footer codes None = refl
by_footer codes (Some f) = by_codes f (packed codes f.code_width f.count)

by_parts : (o : Option (List ℕ × List ℕ))
    → (o >>= (λ p. address_footer p.1 >>= numbers_by p.0)) ≡ (o >>= (λ p. coded_by p.0 p.1) >>= to_numbers)
unfolding coded_by
by_parts None = refl
by_parts (Some p) = by_footer p.0 (address_footer p.1)

pub values-coded : (bytes : List ℕ) → coded_values bytes ≡ (coded_list bytes >>= to_numbers)
unfolding coded_values coded_list number_by
values-coded bytes = by_parts (parts_by_second w64 bytes)

-- bytes that stand for codes stand for the numbers of these
pub values-some : (bytes : List ℕ) (d : Coded) → coded_list bytes ≡ Some d → coded_values bytes ≡ Some (numbers_of d)
values-some bytes d e = values-coded bytes ∙ ap (λ o. o >>= to_numbers) e

-- bytes that stand for no codes stand for no numbers
pub values-none : (bytes : List ℕ) → coded_list bytes ≡ None → coded_values bytes ≡ None
values-none bytes e = values-coded bytes ∙ ap (λ o. o >>= to_numbers) e

-- ---- a code that is read

-- the code at a place, of 32 bits, is one of those that the ranges have
pub record IsReadAt (d : Coded) (idx code : ℕ) : Type 0 where
  pub fits : code < 2 ^ 32
  pub value : slice_get d.codes idx ≡ Some code
  pub first : 1 ≤ code
  pub last : code ≤ code_count d.ranges

items_at : (bytes : List ℕ) (w n i : ℕ) → i < n → slice_get (items bytes w 0 n) i ≡ Some (item bytes w i)
items_at bytes w n i h =
    slice_get-get_or (items bytes w 0 n) i 0 (rw (length_items bytes w n) h)
    ∙ ap Some (get_or-map-range_with_len (item bytes w) 0 n i i 0 h (omega arith))

-- what a reader reads are codes of its ranges
codes_read : (f : AddressFooter) (bytes : List ℕ) → IsReader f bytes
    → list_all (is_in_range 1 (code_count f.ranges)) (items bytes f.code_width 0 f.count) ≡ true
codes_read f bytes reader =
    let codes = items bytes f.code_width 0 f.count in
    (and_parts (list_all (is_in_range 1 (code_count f.ranges)) codes)
    (least_of (map (coded_number f.ranges) codes) == f.least) (and_parts (
    list_all (is_in_range 1 (code_count f.ranges)) codes
    && (least_of (map (coded_number f.ranges) codes) == f.least))
    (greatest_of (map (coded_number f.ranges) codes) == f.greatest) reader.coded).0).0

in_reader : (f : AddressFooter) (bytes : List ℕ) (idx : ℕ) → IsReader f bytes → idx < f.count
    → IsReadAt (coded_in f bytes) idx (item bytes f.code_width idx)
in_reader f bytes idx reader h =
    let codes = items bytes f.code_width 0 f.count in
    let each = codes_read f bytes reader in
    let here = All-get_or (λ x. (1 ≤ x) × (x ≤ code_count f.ranges)) codes idx 0
    (rw (length_items bytes f.code_width f.count) h) (All-from_recursion
    (λ x. (1 ≤ x) × (x ≤ code_count f.ranges)) codes (all_codes (code_count f.ranges) codes each)) in
    let at : slice_index codes idx ≡ item bytes f.code_width idx =
    get_or-map-range_with_len (item bytes f.code_width) 0 f.count idx idx 0 h (omega arith) in
    let within = rw at at here in
    let few = reader.few in
    record {
      fits = omega (arith, within.1, few);
      value = items_at bytes f.code_width f.count idx h;
      first = within.0;
      last = within.1;
    }

-- what is read below the count is the code there, which fits 32 bits and is one of the ranges'
pub code_read : (f : AddressFooter) (bytes read : List ℕ) (d : Coded) (w idx code : ℕ) → coded_in f bytes ≡ d
    → IsReader f bytes → read ≡ bytes → w ≡ f.code_width → code ≡ item read w idx → idx < length d.codes
    → IsReadAt d idx code
code_read f bytes read d w idx code view reader same width_is is h =
    let within : idx < f.count = rw (← view, length_items bytes f.code_width f.count) at h in
    let value : item bytes f.code_width idx ≡ code = sym (is ∙ (λ i. item (same i) (width_is i) idx)) in
    subst (λ (c : ℕ). IsReadAt d idx c) value (subst (λ (x : Coded). IsReadAt x idx (item bytes f.code_width idx))
    view (in_reader f bytes idx reader within))

-- ---- lookups

-- ids of packed items are positions of the items
pub ids-hits : (bytes : List ℕ) (w count low high a n : ℕ) → (n ≡ 0) ⊎ (a + n ≤ count)
    → ids_between bytes w low high a n ≡ hits (is_between number_cmp low high) (items bytes w 0 count) a n
unfolding ids_between hits
ids-hits bytes w count low high a n upto = rows_same _ _ a n (λ k from below.
    let inside : k < count = elim upto [ inl none ↦ omega arith | inr within ↦ omega arith ] in
    sym (ap (passes (is_between number_cmp low high)) (items_at bytes w count k inside) ∙ in_between low high (item bytes w k)))

-- what is made of values by a map is found where the values are
pub hits-mapped : (f : ℕ → ℕ) (p q : ℕ → Bool) (xs : List ℕ) (a n : ℕ)
    → ((i x : ℕ) → slice_get xs i ≡ Some x → p x ≡ q (f x)) → hits p xs a n ≡ hits q (map f xs) a n
unfolding hits
hits-mapped f p q xs a n same = rows_same _ _ a n (λ k from below. by k (slice_get xs k) refl)
  where
    by : (k : ℕ) (o : Option ℕ) → slice_get xs k ≡ o → passes p (slice_get xs k) ≡ passes q (slice_get (map f xs) k)
    by k None e = ap (passes p) e ∙ sym (ap (passes q) (slice_get-map f xs k ∙ ap (option_map f) e))
    by k (Some x) e = ap (passes p) e ∙ same k x e ∙ sym (ap (passes q) (slice_get-map f xs k ∙ ap (option_map f) e))

-- the lookup by packed codes is that in their list
pub found-by-codes : (bytes codes : List ℕ) (w low high from to end n : ℕ) → items bytes w 0 n ≡ codes → end ≡ min to n
    → ids_between bytes w low high from (end - from) ≡ hits_between number_cmp codes low high from to
found-by-codes bytes codes w low high from to end n view upto =
    let long : length (items bytes w 0 n) ≡ n = length_items bytes w n in
    let cases : (end - from ≡ 0) ⊎ (from + (end - from) ≤ n) =
    elim (cases_lt from end) [ inl some ↦ inr (omega (arith, upto)) | inr none ↦ inl (omega arith) ] in
    let parts : end - from ≡ min to (length (items bytes w 0 n)) - from = omega (arith, upto, long) in
    ids-hits bytes w n low high from (end - from) cases
    ∙ ap (hits (is_between number_cmp low high) (items bytes w 0 n) from) parts
    ∙ ap (λ xs. hits_between number_cmp xs low high from to) view

-- each item of a list of codes is one
is_code : (most : ℕ) (codes : List ℕ) (i x : ℕ) → list_all (is_in_range 1 most) codes ≡ true
    → slice_get codes i ≡ Some x → (1 ≤ x) × (x ≤ most)
is_code most codes i x all e = elim (cases_lt i (length codes)) [
  | inl inside ↦
      let same : slice_index codes i ≡ x = same_Some _ _ (sym (slice_get-get_or codes i 0 inside) ∙ e) in
      let here = All-get_or (λ x. (1 ≤ x) × (x ≤ most)) codes i 0 inside (All-from_recursion
      (λ x. (1 ≤ x) × (x ≤ most)) codes (all_codes most codes all)) in
      let first = here.0 in
      let last = here.1 in
      (omega (arith, first, same), omega (arith, last, same))
  | inr past ↦ absurd (none-some x (sym (slice_get_past codes i past) ∙ e))
]

-- the lookup by codes is that by the numbers that they stand for
pub found-by-numbers : (rs : List (ℕ × ℕ)) (codes : List ℕ) (first last low high from to : ℕ)
    → list_all (is_in_range 1 (code_count rs)) codes ≡ true
    → ((k : ℕ) → 1 ≤ k → k ≤ code_count rs → is_in_range low high (coded_number rs k) ≡ is_in_range first last k)
    → hits_between number_cmp codes first last from to ≡ hits_between number_cmp (map (coded_number rs) codes) low high from to
found-by-numbers rs codes first last low high from to all tells =
    let g = coded_number rs in
    let long : length codes ≡ length (map g codes) = sym (length-map codes g) in
    hits-mapped g (is_between number_cmp first last) (is_between number_cmp low high) codes from (span (length codes) from to) (λ i x e.
    let within = is_code (code_count rs) codes i x all e in
    in_between first last x ∙ sym (tells x within.0 within.1) ∙ sym (in_between low high (g x)))
    ∙ ap (λ n. hits (is_between number_cmp low high) (map g codes) from (span n from to)) long

-- the same of the list that a contract sees
pub all-coded : (f : AddressFooter) (bytes : List ℕ) (d : Coded) → coded_in f bytes ≡ d → IsReader f bytes
    → list_all (is_in_range 1 (code_count d.ranges)) d.codes ≡ true
all-coded f bytes d view reader =
    subst (λ (x : Coded). list_all (is_in_range 1 (code_count x.ranges)) x.codes ≡ true) view (codes_read f bytes reader)

-- ---- counts and bounds

-- the footer's count is that of the numbers and that of the codes
pub numbers-count : (f : AddressFooter) (bytes : List ℕ) (d : Coded) → coded_in f bytes ≡ d
    → (f.count ≡ length (numbers_of d)) × (f.count ≡ length d.codes)
numbers-count f bytes d view =
    let codes = items bytes f.code_width 0 f.count in
    let long = length_items bytes f.code_width f.count in
    subst (λ (x : Coded). (f.count ≡ length (numbers_of x)) × (f.count ≡ length x.codes)) view
    (sym long ∙ sym (length-map codes (coded_number f.ranges)), sym long)

-- ---- lists behind a header

abbrev with_count : ℕ → List ℕ → Option (List ℕ)
with_count n xs = only_if (length xs == n) xs

counted_numbers : (n : ℕ) (o : Option Coded) → (o >>= to_numbers >>= with_count n) ≡ (o >>= with_codes n >>= to_numbers)
counted_numbers n None = refl
counted_numbers n (Some d) =
    ap (λ k. only_if (k == n) (numbers_of d)) (length-map d.codes (coded_number d.ranges)) ∙ go (length d.codes == n)
  where
    go : (b : Bool) → only_if b (numbers_of d) ≡ (only_if b d >>= to_numbers)
    go true = refl
    go false = refl

headed : (o : Option (ℕ × List ℕ))
    → (o >>= (λ h. coded_values h.1 >>= with_count h.0))
    ≡ (o >>= (λ h. coded_list h.1 >>= with_codes h.0) >>= to_numbers)
headed None = refl
headed (Some h) = ap (λ o. o >>= with_count h.0) (values-coded h.1) ∙ counted_numbers h.0 (coded_list h.1)

pub values128-headed : (bytes : List ℕ) → values128 bytes ≡ (headed_list bytes >>= to_numbers)
unfolding values128 headed_list
values128-headed bytes = headed (header_at bytes)

-- bytes that have no header stand for no codes
pub headed-none : (bytes : List ℕ) → header_at bytes ≡ None → headed_list bytes ≡ None
unfolding headed_list
headed-none bytes e = rw e refl

pub headed-some : (bytes rest : List ℕ) (n : ℕ) → header_at bytes ≡ Some (n, rest) → headed_list bytes ≡ (coded_list rest >>= with_codes n)
unfolding headed_list
headed-some bytes rest n e = rw e refl

-- bytes with a header, whose rest stands for no codes, stand for none
pub headed-unread : (bytes rest : List ℕ) (n : ℕ) → header_at bytes ≡ Some (n, rest) → coded_list rest ≡ None → headed_list bytes ≡ None
headed-unread bytes rest n e f = headed-some bytes rest n e ∙ ap (λ o. o >>= with_codes n) f

-- bytes with a header stand for the codes behind it if these are as many as it says
pub headed-read : (bytes rest : List ℕ) (n : ℕ) (d : Coded) (b : Bool) → header_at bytes ≡ Some (n, rest)
    → coded_list rest ≡ Some d → (length d.codes == n) ≡ b → headed_list bytes ≡ only_if b d
headed-read bytes rest n d b e f test = headed-some bytes rest n e ∙ ap (λ o. o >>= with_codes n) f ∙ ap (λ t. only_if t d) test

-- bytes that stand for no codes behind a header stand for no list
pub numbers-none : (bytes : List ℕ) → headed_list bytes ≡ None → values128 bytes ≡ None
numbers-none bytes e = values128-headed bytes ∙ ap (λ o. o >>= to_numbers) e

-- bytes that stand for codes behind a header stand for the list of their numbers
pub numbers-some : (bytes : List ℕ) (d : Coded) → headed_list bytes ≡ Some d → values128 bytes ≡ Some (numbers_of d)
numbers-some bytes d e = values128-headed bytes ∙ ap (λ o. o >>= to_numbers) e
