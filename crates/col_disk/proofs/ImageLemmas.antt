-- Of a disk in memory, an image after a write is one from before it, torn.
use Rattle.std.proofs.Common.{◌≡◌, ◌⊎◌, inl, inr, ⊎_elim, ℕ, ◌+◌, ◌-◌, ◌<◌, ◌≤◌, ◌&&◌, ◌||◌, min, max, nat_lt, Bool, true, false, List, ◌∷◌, ◌++◌, length, take, drop, get_or, map, nat_le, if◌then◌else◌, refl, sym, ◌∙◌, ap, subst, arith, length-append, length-take, length-drop}
use Rattle.std.specs.List.{range_with_len}
use Rattle.std.proofs.lemmas.Bool.{cases_lt, lt-leb, lt-ltb}
use Rattle.std.proofs.lemmas.Bool.Decides.{nat_tests}
use Rattle.std.proofs.lemmas.List.{get_or-take, get_or-drop, get_or_append_left, ext_get_or}
use Rattle.std.proofs.lemmas.List.FromFn.{get_or-map-range_with_len, length-map-range_with_len}
use Rattle.col_disk.specs.Crash.{Torn, overwritten}
use Rattle.col_disk.specs.History.{State, all_synced, is_written, IsLeftIn, IsClean}
use Rattle.col_disk.proofs.TornLemmas.{behind-overwritten, length-overwritten}

-- the place lies before the range or behind it
abbrev IsOutside : ℕ → ℕ → ℕ → Type 0
IsOutside at n i = (i < at) ⊎ (at + n ≤ i)

-- outside of the range the bytes stay
overwritten-outside : (at n : ℕ) (put old : List ℕ) (i : ℕ) → at ≤ length old → length put ≤ n → i < length old → IsOutside at n i
    → get_or (overwritten at put old) i 0 ≡ get_or old i 0
overwritten-outside at n put old i le fits inside (inl below) =
    let size : length (take at old) ≡ at = omega (arith, length-take at old) in
    get_or_append_left (take at old ++ put) (drop (at + length put) old) 0 i (omega (arith, length-append (take at old) put, size))
    ∙ get_or_append_left (take at old) put 0 i (omega (arith, size)) ∙ get_or-take at old i 0 below
overwritten-outside at n put old i le fits inside (inr behind) =
    let place : at + n + (i - (at + n)) ≡ i = omega (arith, behind) in
    let same : get_or (drop (at + n) (overwritten at put old)) (i - (at + n)) 0 ≡ get_or (drop (at + n) old) (i - (at + n)) 0 =
    ap (λ (l : List ℕ). get_or l (i - (at + n)) 0) (behind-overwritten at put old n le fits) in
    subst (λ k. get_or (overwritten at put old) k 0 ≡ get_or old k 0) place
    (sym (get_or-drop (at + n) (overwritten at put old) (i - (at + n)) 0) ∙ same ∙ get_or-drop (at + n) old (i - (at + n)) 0)

-- the place lies in the range
abbrev in_range : ℕ → ℕ → ℕ → Bool
in_range at n i = nat_le at i && nat_lt i (at + n)

-- a place is in a range or outside
where_is : (at n i : ℕ) → ((in_range at n i ≡ true) × (at ≤ i) × (i < at + n)) ⊎ ((in_range at n i ≡ false) × IsOutside at n i)
where_is at n i = ⊎_elim
    (λ below. let out : in_range at n i ≡ false = ap (λ b. b && nat_lt i (at + n)) (lt-leb at i below) in inr (out, inl below))
    (λ from. ⊎_elim
    (λ inside. let here : in_range at n i ≡ true = grind (arith, nat_tests) in inl (here, from, inside))
    (λ behind. let out : in_range at n i ≡ false = grind (arith, nat_tests) in inr (out, inr behind))
    (cases_lt i (at + n)))
    (cases_lt i at)

-- outside of the new range and of the old ones
outside : (at n i : ℕ) (ranges : List (ℕ × ℕ)) → is_written ((at, n) ∷ ranges) i ≡ false → (is_written ranges i ≡ false) × IsOutside at n i
outside at n i ranges free = ⊎_elim
    (λ w. let there : is_written ((at, n) ∷ ranges) i ≡ true = ap (λ b. b || is_written ranges i) w.0 in absurd (cc (sym there ∙ free)))
    (λ w.
    let rest : is_written ((at, n) ∷ ranges) i ≡ is_written ranges i = ap (λ b. b || is_written ranges i) w.0 in
    (sym rest ∙ free, w.1))
    (where_is at n i)

-- no place is inside and outside
not_both : (at n i : ℕ) → at ≤ i → i < at + n → IsOutside at n i → ⊥
not_both at n i from inside (inl below) = omega arith
not_both at n i from inside (inr behind) = omega arith

-- outside of them all the place isn't written
still_outside : (at n i : ℕ) (ranges : List (ℕ × ℕ)) → is_written ranges i ≡ false → IsOutside at n i
    → is_written ((at, n) ∷ ranges) i ≡ false
still_outside at n i ranges free out = ⊎_elim
    (λ w. absurd (not_both at n i w.1 w.2 out))
    (λ w. ap (λ b. b || is_written ranges i) w.0 ∙ free)
    (where_is at n i)

-- Of an image after a write, the image before it: the bytes in the range as they were at the last sync, and nothing
-- past the end that there was.
module _ (base bytes c : List ℕ) (at n : ℕ) where
  -- how many bytes it has, and which
  abbrev count : ℕ
  count = min (length c) (length bytes)

  abbrev byte : ℕ → ℕ
  byte i = if in_range at n i && nat_lt i (length base) then get_or base i 0 else get_or c i 0

  abbrev pub untorn_image : List ℕ
  untorn_image = map byte (range_with_len 0 count)

  -- its length and its bytes, as they were defined
  long : length untorn_image ≡ min (length c) (length bytes)
  long = length-map-range_with_len byte 0 count

  byte_is : (i : ℕ) → i < count → get_or untorn_image i 0 ≡ byte i
  byte_is i h = get_or-map-range_with_len byte 0 count i i 0 h (omega arith)

  -- outside of the range it has the bytes of the image
  other : (i : ℕ) → i < count → IsOutside at n i → get_or untorn_image i 0 ≡ get_or c i 0
  other i h out = ⊎_elim
      (λ w. absurd (not_both at n i w.1 w.2 out))
      (λ w.
      let same : byte i ≡ get_or c i 0 =
      ap (λ b. if b && nat_lt i (length base) then get_or base i 0 else get_or c i 0) w.0 in
      byte_is i h ∙ same)
      (where_is at n i)

  -- and in it those of the last sync, where there were any
  inside : (i : ℕ) → i < count → i < length base → in_range at n i ≡ true → get_or untorn_image i 0 ≡ get_or base i 0
  inside i h old w =
      let first : byte i ≡ (if nat_lt i (length base) then get_or base i 0 else get_or c i 0) =
      ap (λ b. if b && nat_lt i (length base) then get_or base i 0 else get_or c i 0) w in
      let second : (if nat_lt i (length base) then get_or base i 0 else get_or c i 0) ≡ get_or base i 0 =
      ap (λ b. if b then get_or base i 0 else get_or c i 0) (lt-ltb i (length base) old) in
      byte_is i h ∙ first ∙ second

-- the image of a state before a write of n bytes at a place
abbrev before : State → ℕ → ℕ → List ℕ → List ℕ
before s at n c = untorn_image s.base s.bytes c at n

-- it was an image
was_left : (s t : State) (at n : ℕ) (c : List ℕ) → length s.base ≤ length s.bytes
    → t.base ≡ s.base → t.ranges ≡ (at, n) ∷ s.ranges → IsLeftIn t c → IsLeftIn s (before s at n c)
was_left s t at n c shorter base ranges image =
    let d = before s at n c in
    let size = long s.base s.bytes c at n in
    let reach : length s.base ≤ length c = omega (arith, ap length base, image.no_shorter) in
    let kept : (i : ℕ) → i < length s.base → is_written s.ranges i ≡ false → get_or d i 0 ≡ get_or s.base i 0 = λ i old free.
    let here : i < min (length c) (length s.bytes) = omega (arith, reach, shorter, old) in
    let free_now : IsOutside at n i → is_written t.ranges i ≡ false = λ out.
    ap (λ r. is_written r i) ranges ∙ still_outside at n i s.ranges free out in
    let still : i < length t.base = omega (arith, ap length base, old) in
    ⊎_elim
    (λ w. inside s.base s.bytes c at n i here old w.0)
    (λ w. other s.base s.bytes c at n i here w.1 ∙ image.others i still (free_now w.1) ∙ ap (λ (l : List ℕ). get_or l i 0) base)
    (where_is at n i) in
    record { no_shorter = omega (arith, size, reach, shorter); no_longer = omega (arith, size); others = kept }

-- and the write tore it
was_torn : (s : State) (at n : ℕ) (c : List ℕ) → at ≤ length s.bytes → length c ≤ max (length s.bytes) (at + n)
    → Torn at n (before s at n c) c
was_torn s at n c le reach =
    let d = before s at n c in
    let size = long s.base s.bytes c at n in
    let same : (i : ℕ) → i < length c → i < length s.bytes → IsOutside at n i → get_or c i 0 ≡ get_or d i 0 = λ i in_c in_bytes out.
    sym (other s.base s.bytes c at n i (omega (arith, in_c, in_bytes)) out) in
    let front : take at c ≡ take at d = ext_get_or 0 (take at c) (take at d) (omega (arith, length-take at c, length-take at d, size, le))
    (λ i below.
    let first : i < at = omega (arith, length-take at c, below) in
    let in_c : i < length c = omega (arith, length-take at c, below) in
    get_or-take at c i 0 first ∙ same i in_c (omega (arith, first, le)) (inl first) ∙ sym (get_or-take at d i 0 first)) in
    let back : drop (at + n) c ≡ drop (at + n) d =
    ext_get_or 0 (drop (at + n) c) (drop (at + n) d) (omega (arith, length-drop (at + n) c, length-drop (at + n) d, size, reach))
    (λ i below.
    let in_c : at + n + i < length c = omega (arith, length-drop (at + n) c, below) in
    get_or-drop (at + n) c i 0 ∙ same (at + n + i) in_c (omega (arith, in_c, reach)) (inr (omega arith))
    ∙ sym (get_or-drop (at + n) d i 0)) in
    record { before = front; behind = back; no_shorter = omega (arith, size); no_longer = omega (arith, size, reach) }

-- what a read gives after a write is an image, where it was one before
pub image_written : (s : State) (at n : ℕ) (put : List ℕ) → at ≤ length s.bytes → length put ≤ n → IsLeftIn s s.bytes
    → IsLeftIn (record { base = s.base; ranges = (at, n) ∷ s.ranges; bytes = overwritten at put s.bytes }) (overwritten at put s.bytes)
image_written s at n put le fits image = record {
  no_shorter = omega (arith, image.no_shorter, length-overwritten at put s.bytes le);
  no_longer = omega arith;
  others = λ i old free.
      let out = outside at n i s.ranges free in
      let there : i < length s.bytes = omega (arith, image.no_shorter, old) in
      overwritten-outside at n put s.bytes i le fits there out.1 ∙ image.others i old out.0;
}

-- an image after a write is one from before it, torn
pub image_before : (s t : State) (at n : ℕ) (put c : List ℕ) → at ≤ length s.bytes → length put ≤ n → length s.base ≤ length s.bytes
    → t ≡ record { base = s.base; ranges = (at, n) ∷ s.ranges; bytes = overwritten at put s.bytes } → IsLeftIn t c
    → (d : List ℕ) × IsLeftIn s d × Torn at n d c
image_before s t at n put c le fits shorter is image =
    let bytes : length t.bytes ≡ max (length s.bytes) (at + length put) =
    ap (λ (u : State). length u.bytes) is ∙ length-overwritten at put s.bytes le in
    let base = ap (λ (u : State). u.base) is in
    let ranges = ap (λ (u : State). u.ranges) is in
    let reach : length c ≤ max (length s.bytes) (at + n) = omega (arith, image.no_longer, bytes, fits) in
    (before s at n c, was_left s t at n c shorter base ranges image, was_torn s at n c le reach)

-- where nothing is pending, what is read is the one image
pub clean_only : (s : State) (c : List ℕ) → IsClean s → IsLeftIn s c → c ≡ s.bytes
clean_only s c clean image =
    let same = ap length clean.base in
    let size : length c ≡ length s.bytes = omega (arith, same, image.no_shorter, image.no_longer) in
    ext_get_or 0 c s.bytes size (λ i below.
    let old : i < length s.base = omega (arith, same, size, below) in
    image.others i old (ap (λ r. is_written r i) clean.ranges) ∙ ap (λ (l : List ℕ). get_or l i 0) clean.base)

-- with all on the disk, what is read is an image
pub image_synced : (bytes : List ℕ) → IsLeftIn (all_synced bytes) bytes
image_synced bytes = record { no_shorter = omega arith; no_longer = omega arith; others = λ i old free. refl }
