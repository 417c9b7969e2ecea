-- Lists that are turned and packed, a block at a time.
use Rattle.std.proofs.Common.{◌≡◌, ℕ, zero, suc, ◌+◌, ◌*◌, ◌%◌, ◌^◌, ◌<◌, ◌≤◌, min, List, [], ◌∷◌, ◌++◌, map, length, take, drop, get_or, set, Ok, Err, refl, sym, ap, ◌∙◌, subst, arith, append_assoc, append-nil, length-take, length-drop, zero-mul}
use Rattle.std.specs.List.{AllByRecursion, enumerate_from, range_with_len}
use Rattle.std.proofs.lemmas.List.{map-append, take_all, take_more, drop_more, drop_all, set_at, get_or_at, length-map, take-append-drop, drop-drop}
use Rattle.std.proofs.Math.Seq.{take-add}
use Rattle.std.proofs.lemmas.List.FromFn.{length-enumerate_from}
use Rattle.std.specs.Int.{div_ceil}
use Rattle.col_common.specs.Ascending.{AreBelow}
use Rattle.col_common.specs.Outside.{SeenSink}
use Rattle.col_common.specs.Serializing.{Serializes}
use Rattle.col_common.specs.declared.error.ColumnarError.{ColumnarError}
use Rattle.col_common.proofs.SerializingLemmas.{serializes-then, serializes-stopped, serializes-nothing}
use Rattle.col_bits.specs.Packed.{digits, packed_bytes}
use Rattle.col_model.proofs.ListLaws.{all_taken, all_dropped}
use Rattle.col_codecs.specs.Turning.{by_position, packed_by_position, ArePackable}
use Rattle.col_codecs.proofs.PackingLemmas.{packed_bytes-append}

pub enumerate_from-append : (k : ℕ) (xs ys : List ℕ)
    → enumerate_from k (xs ++ ys) ≡ enumerate_from k xs ++ enumerate_from (k + length xs) ys
enumerate_from-append k [] ys = let e : k ≡ k + 0 = omega arith in ap (λ n. enumerate_from n ys) e
enumerate_from-append k (x ∷ xs) ys =
    let e : k + 1 + length xs ≡ k + suc (length xs) = omega arith in
    ap (λ ps. (k, x) ∷ ps) (enumerate_from-append (k + 1) xs ys ∙ ap (λ n. enumerate_from (k + 1) xs ++ enumerate_from n ys) e)

module _ (f : ℕ × ℕ → ℕ) where
  -- what is made of two joined lists is what is made of each, with the second's positions behind
  -- the first's
  pub by_position-append : (k : ℕ) (xs ys : List ℕ) → by_position f k (xs ++ ys) ≡ by_position f k xs ++ by_position f (k + length xs) ys
  by_position-append k xs ys =
      ap (map f) (enumerate_from-append k xs ys)
      ∙ map-append f (enumerate_from k xs) (enumerate_from (k + length xs) ys)

  pub length-by_position : (k : ℕ) (xs : List ℕ) → length (by_position f k xs) ≡ length xs
  length-by_position k xs = length-map (enumerate_from k xs) f ∙ length-enumerate_from k xs

  -- one item more is replaced
  pub replaced-more : (start i y : ℕ) (xs ys : List ℕ) → i < length xs
      → ys ≡ by_position f start (take i xs) ++ drop i xs → y ≡ f (start + i, get_or ys i 0)
      → set ys i y ≡ by_position f start (take (i + 1) xs) ++ drop (i + 1) xs
  replaced-more start i y xs ys h e is =
      let x = get_or xs i 0 in
      let done = by_position f start (take i xs) in
      let rest = drop (i + 1) xs in
      let taken : length (take i xs) ≡ i = omega (arith, length-take i xs, h) in
      let count : length done ≡ i = length-by_position start (take i xs) ∙ taken in
      let split : ys ≡ done ++ x ∷ rest = e ∙ ap (λ zs. done ++ zs) (drop_more xs i 0 h) in
      let read : get_or ys i 0 ≡ x = ap (λ zs. get_or zs i 0) split ∙ get_or_at done x rest 0 i count in
      let here : f (start + length (take i xs), x) ≡ y = ap (λ n. f (start + n, x)) taken ∙ sym (is ∙ ap (λ v. f (start + i, v)) read) in
      let grown : by_position f start (take (i + 1) xs) ≡ done ++ y ∷ [] =
      ap (by_position f start) (take_more xs i 0 h) ∙ by_position-append start (take i xs) (x ∷ [])
      ∙ ap (λ v. done ++ v ∷ []) here in
      ap (λ zs. set zs i y) split ∙ set_at done x rest y i count ∙ sym (ap (λ zs. zs ++ rest) grown ∙ append_assoc done (y ∷ []) rest)

  pub replaced-none : (start : ℕ) (xs : List ℕ) → xs ≡ by_position f start (take 0 xs) ++ drop 0 xs
  replaced-none start xs = refl

  pub replaced-all : (start i : ℕ) (xs ys : List ℕ) → length xs ≤ i
      → ys ≡ by_position f start (take i xs) ++ drop i xs → ys ≡ by_position f start xs
  replaced-all start i xs ys h e =
      e ∙ ap (λ zs. by_position f start zs ++ drop i xs) (take_all i xs h)
      ∙ ap (λ zs. by_position f start xs ++ zs) (drop_all i xs h) ∙ append-nil (by_position f start xs)

-- ---- blocks, one after another

all_front : (P : ℕ → Type 0) (xs ys : List ℕ) → AllByRecursion P (xs ++ ys) → AllByRecursion P xs
all_front P [] ys all = tt
all_front P (x ∷ xs) ys all = (all.0, all_front P xs ys all.1)

all_back : (P : ℕ → Type 0) (xs ys : List ℕ) → AllByRecursion P (xs ++ ys) → AllByRecursion P ys
all_back P [] ys all = all
all_back P (x ∷ xs) ys all = all_back P xs ys all.1

-- what holds of all numbers
pub all_of : {P : ℕ → Type 0} → ((x : ℕ) → P x) → (xs : List ℕ) → AllByRecursion P xs
all_of f [] = tt
all_of f (x ∷ xs) = (f x, all_of f xs)

-- where no item depends on its position
pub by_position-alone : (f : ℕ → ℕ) (k : ℕ) (xs : List ℕ) → by_position (λ p. f p.1) k xs ≡ map f xs
by_position-alone f k [] = refl
by_position-alone f k (x ∷ xs) = ap (λ ys. f x ∷ ys) (by_position-alone f (k + 1) xs)

-- items that are counted from the same position
pub by_position-of : (f : ℕ × ℕ → ℕ) (g : ℕ → ℕ) (k n : ℕ)
    → by_position f k (map g (range_with_len k n)) ≡ map (λ i. f (i, g i)) (range_with_len k n)
by_position-of f g k zero = refl
by_position-of f g k (suc n) = ap (λ ys. f (k, g k) ∷ ys) (by_position-of f g (k + 1) n)

-- the items before a position are written, left are those from there on, and another block begins at a byte
pub record IsWritten (f : ℕ × ℕ → ℕ) (w : ℕ) (items : List ℕ) (start : ℕ) (left : List ℕ) (old new : SeenSink) : Type 0 where
  pub within : start ≤ length items
  pub rest : left ≡ drop start items
  pub whole : 0 < length left → start % 8 ≡ 0
  pub done : Serializes old new (Ok tt) (packed_by_position f w 0 (take start items))

-- what is turned, at w bits
module _ (f : ℕ × ℕ → ℕ) (w : ℕ) where
  -- each item takes at most these
  abbrev AllFit : ℕ → List ℕ → Type 0
  AllFit k xs = AreBelow (2 ^ w) (by_position f k xs)

  fit_front : (k : ℕ) (xs ys : List ℕ) → AllFit k (xs ++ ys) → AllFit k xs
  fit_front k xs ys all = all_front (λ v. v < 2 ^ w) (by_position f k xs) _ (subst (AreBelow (2 ^ w)) (by_position-append f k xs ys) all)

  fit_back : (k : ℕ) (xs ys : List ℕ) → AllFit k (xs ++ ys) → AllFit (k + length xs) ys
  fit_back k xs ys all = all_back (λ v. v < 2 ^ w) (by_position f k xs) _ (subst (AreBelow (2 ^ w)) (by_position-append f k xs ys) all)

  -- before the first item nothing is written, and all is left
  pub written-none : (items left : List ℕ) (old : SeenSink) → left ≡ items → IsWritten f w items 0 left old old
  written-none items left old e = record {
    within = omega arith;
    rest = e;
    whole = λ _. refl;
    done = rw packed_nothing (serializes-nothing old tt);
  }
    where
      packed_nothing : packed_bytes w [] ≡ []
      packed_nothing = let none : div_ceil (0 * w) 8 ≡ 0 = omega (arith, zero-mul w) in ap (λ n. digits 256 n 0) none

  -- a block of the items that are left
  module _ (items : List ℕ) (start : ℕ) (left : List ℕ) (old new : SeenSink) (h : IsWritten f w items start left old
      new) (fit : AllFit 0 items) (taken : ℕ) (is : taken ≡ min 512 (length left)) where
    block-fits : AllFit start (take taken left)
    block-fits =
        let split : take start items ++ left ≡ items = ap (λ xs. take start items ++ xs) h.rest ∙ take-append-drop start items in
        let behind : AllFit (0 + length (take start items)) left = fit_back 0 (take start items) left (subst (AllFit 0) (sym split) fit) in
        let count : 0 + length (take start items) ≡ start = omega (arith, length-take start items, h.within) in
        let from : AllFit start left = subst (λ n. AllFit n left) count behind in
        fit_front start (take taken left) (drop taken left) (subst (AllFit start) (sym (take-append-drop taken left)) from)

    pub block-within : start + length (take taken left) ≤ length items
    block-within = omega (arith, length-take taken left, ap length h.rest, length-drop start items, h.within, is)

    -- the next block of items, at most 512, can be turned and packed
    pub block-packable : (P : ℕ → Type 0) → AllByRecursion P items → length items < 2 ^ 32 → ArePackable P f w start (take taken left)
    block-packable P all few = record {
      taken = all_taken P taken left (subst (AllByRecursion P) (sym h.rest) (all_dropped P start items all));
      small = block-fits;
      count = omega (arith, block-within, few);
    }

    -- the bytes of the items before it and of the block
    block-bytes : 0 < taken →
        packed_by_position f w 0 (take start items) ++ packed_by_position f w start (take taken left)
        ≡ packed_by_position f w 0 (take (start + taken) items)
    block-bytes some =
        let front = take start items in
        let block = take taken left in
        let count : length front ≡ start = omega (arith, length-take start items, h.within) in
        let from : 0 + length front ≡ start = omega (arith, count) in
        let small : AllFit 0 front = fit_front 0 front (drop start items) (subst (AllFit 0) (sym (take-append-drop start items)) fit) in
        let eights : length (by_position f 0 front) % 8 ≡ 0 =
        ap (λ n. n % 8) (length-by_position f 0 front ∙ count) ∙ h.whole (omega (arith, is, some)) in
        let joined : front ++ block ≡ take (start + taken) items =
        ap (λ xs. front ++ take taken xs) h.rest ∙ sym (take-add start taken items) in
        sym (packed_bytes-append w (by_position f 0 front) (by_position f start block) small eights)
        ∙ ap (packed_bytes w) (ap (λ n. by_position f 0 front ++ by_position f n block) (sym from)
        ∙ sym (by_position-append f 0 front block) ∙ ap (by_position f 0) joined)

    -- it was written
    pub written-more : (more : SeenSink) (rest : List ℕ) (next : ℕ) → 0 < taken → next ≡ start + taken
        → rest ≡ drop taken left → Serializes new more (Ok tt) (packed_by_position f w start (take taken left))
        → IsWritten f w items next rest old more
    written-more more rest next some n r s =
        let lefts = ap length h.rest in
        let behind : rest ≡ drop next items = r ∙ ap (drop taken) h.rest ∙ drop-drop taken start items ∙ ap (λ k. drop k items) (sym n) in
        record {
          within = omega (arith, n, is, lefts, length-drop start items, h.within);
          rest = behind;
          whole = λ some_left. omega (arith, n, is, h.whole (omega (arith, is, some)), ap length r, length-drop taken left, some_left);
          done =
              subst (λ bytes. Serializes old more (Ok tt) bytes)
              (block-bytes some ∙ ap (λ k. packed_by_position f w 0 (take k items)) (sym n))
              (serializes-then old new more tt (Ok tt) (packed_by_position f w 0 (take start items))
              (packed_by_position f w start (take taken left)) h.done s);
        }

    -- it was refused
    pub written-stopped : (more : SeenSink) (e : ColumnarError)
        → Serializes new more (Err e) (packed_by_position f w start (take taken left))
        → Serializes old more (Err e) (packed_by_position f w 0 items)
    written-stopped more e s =
        serializes-stopped old more e _ (packed_by_position f w 0 items)
        (serializes-then old new more tt (Err e) _ _ h.done s)

    -- nothing was left
    pub written-all : taken ≡ 0 → Serializes old new (Ok tt) (packed_by_position f w 0 items)
    written-all none =
        let all : take start items ≡ items = take_all start items (omega (arith, is, none, ap length h.rest, length-drop start items)) in
        subst (λ xs. Serializes old new (Ok tt) (packed_by_position f w 0 xs)) all h.done
