-- Bytes that were written over, and bytes that were torn.
use Rattle.std.proofs.Common.{◌≡◌, ◌≤◌, ◌∙◌, ap, ℕ, ◌+◌, ◌-◌, max, List, ◌++◌, length, take, drop, refl, sym, subst, arith, append_assoc, length-append, length-take, length-drop}
use Rattle.std.proofs.lemmas.List.{take-take, take_at, drop_at, drop-drop, length-take-le}
use Rattle.col_disk.specs.Crash.{Torn, overwritten}

-- how long bytes are that were written over
pub length-overwritten : (at : ℕ) (put old : List ℕ) → at ≤ length old
    → length (overwritten at put old) ≡ max (length old) (at + length put)
length-overwritten at put old le =
    let back : List ℕ = drop (at + length put) old in
    omega (
      arith,
      length-append (take at old ++ put) back,
      length-append (take at old) put,
      length-take at old,
      length-drop (at + length put) old,
    )

-- what stands behind them
pub behind-overwritten : (at : ℕ) (put old : List ℕ) (n : ℕ) → at ≤ length old → length put ≤ n
    → drop (at + n) (overwritten at put old) ≡ drop (at + n) old
behind-overwritten at put old n le fits =
    let front : List ℕ = take at old ++ put in
    let back : List ℕ = drop (at + length put) old in
    let more : ℕ = n - length put in
    let turn : at + length put + more ≡ at + n = omega (arith, fits) in
    let size : length front ≡ at + length put = omega (arith, length-append (take at old) put, length-take-le at old le) in
    let same : drop more (drop (at + length put) (front ++ back)) ≡ drop more back =
    ap (drop more) (drop_at front back (at + length put) size) in
    subst (λ k. drop k (front ++ back) ≡ drop k old) turn
    (sym (drop-drop more (at + length put) (front ++ back)) ∙ same ∙ drop-drop more (at + length put) old)

-- two parts, the second behind the first, are one
pub overwritten-twice : (at : ℕ) (a b old : List ℕ) → at ≤ length old
    → overwritten (at + length a) b (overwritten at a old) ≡ overwritten at (a ++ b) old
overwritten-twice at a b old le =
    let front : List ℕ = take at old in
    let back : List ℕ = drop (at + length a) old in
    let size : length (front ++ a) ≡ at + length a = omega (arith, length-append front a, length-take-le at old le) in
    let first : take (at + length a) (overwritten at a old) ≡ front ++ a = take_at (front ++ a) back (at + length a) size in
    let until : at + length a + length b ≡ at + length (a ++ b) = omega (arith, length-append a b) in
    let last : drop (at + length a + length b) (overwritten at a old) ≡ drop (at + length a + length b) old =
    sym (drop-drop (length b) (at + length a) (overwritten at a old))
    ∙ ap (drop (length b)) (drop_at (front ++ a) back (at + length a) size) ∙ drop-drop (length b) (at + length a) old in
    (λ i. first i ++ b ++ last i)
    ∙ ap (λ (l : List ℕ). l ++ drop (at + length a + length b) old) (append_assoc front a b)
    ∙ ap (λ (k : ℕ). front ++ (a ++ b) ++ drop k old) until

-- what nothing was written to is torn nowhere
pub untorn : (at n : ℕ) (c : List ℕ) → Torn at n c c
untorn at n c = record { before = refl; behind = refl; no_shorter = omega arith; no_longer = omega arith }

-- torn in a range, and then in the range behind it
pub torn_twice : (at n m : ℕ) (a b c : List ℕ) → Torn at n a b → Torn (at + n) m b c → Torn at (n + m) a c
torn_twice at n m a b c first second =
    let until : at + n + m ≡ at + (n + m) = omega arith in
    let front : take at c ≡ take at b =
    sym (take-take at (at + n) c (omega arith)) ∙ ap (take at) second.before ∙ take-take at (at + n) b (omega arith) in
    let back : drop (at + n + m) c ≡ drop (at + n + m) a =
    second.behind ∙ sym (drop-drop m (at + n) b) ∙ ap (drop m) first.behind ∙ drop-drop m (at + n) a in
    record {
      before = front ∙ first.before;
      behind = subst (λ k. drop k c ≡ drop k a) until back;
      no_shorter = omega (arith, first.no_shorter, second.no_shorter);
      no_longer = omega (arith, first.no_longer, second.no_longer);
    }

-- what was torn in a range was torn in a longer one
pub torn_wider : (at : ℕ) (a b old new : List ℕ) → Torn at (length a) old new → Torn at (length (a ++ b)) old new
torn_wider at a b old new torn =
    subst (λ n. Torn at n old new) (sym (length-append a b))
    (torn_twice at (length a) (length b) old new new torn (untorn (at + length a) (length b) new))

-- a write that was cut short tears
pub torn_part : (at n : ℕ) (put old : List ℕ) → at ≤ length old → length put ≤ n → Torn at n old (overwritten at put old)
torn_part at n put old le fits =
    let front : List ℕ = take at old in
    let back : List ℕ = drop (at + length put) old in
    let long = length-overwritten at put old le in
    record {
      before = ap (take at) (append_assoc front put back) ∙ take_at front (put ++ back) at (length-take-le at old le);
      behind = behind-overwritten at put old n le fits;
      no_shorter = omega (arith, long);
      no_longer = omega (arith, long, fits);
    }
