-- The hash of a term, word by word.
use Rattle.std.proofs.Common.{◌≡◌, ℕ, ◌+◌, ◌-◌, ◌*◌, ◌/◌, ◌^◌, ◌<◌, ◌≤◌, List, length, take, drop, sym, ap, ◌∙◌, arith, add-one}
use Rattle.std.proofs.lemmas.List.{drop-drop, length-drop}
use Rattle.std.proofs.Math.Seq.{take-length}
use Rattle.col_terms.specs.Hashing.{mixed, mixed_words, hash_of}
use Rattle.col_terms.specs.TermTable.{head_of}

-- what stands from a place on
rest : (t : List ℕ) (n : ℕ) → take (length t - n) (drop n t) ≡ drop n t
rest t n =
    ap (λ k. take k (drop n t))
    (let l = length-drop n t in let same : length t - n ≡ length (drop n t) = omega arith in same)
    ∙ take-length (drop n t)

one_word : (n m hash : ℕ) (bytes : List ℕ) → n ≡ m + 1
    → mixed_words n hash bytes ≡ mixed_words m (mixed hash (head_of bytes)) (drop 8 bytes)
unfolding mixed_words
one_word n m hash bytes e = ap (λ k. mixed_words k hash bytes) (e ∙ add-one m)

no_word : (n hash : ℕ) (bytes : List ℕ) → n ≡ 0 → mixed_words n hash bytes ≡ hash
unfolding mixed_words
no_word n hash bytes e = ap (λ k. mixed_words k hash bytes) e

module _ (t : List ℕ) (i hash : ℕ) where
  -- how many words a term has
  abbrev n : ℕ
  n = length t / 8

  -- what the words that are left make of a hash is what all make of 0
  abbrev Comes : Type 0
  Comes = mixed_words (n - i) hash (drop (i * 8) t) ≡ mixed_words n 0 t

  -- one word more
  pub hash-more : (word next : ℕ) → i < n → Comes → word ≡ head_of (take (length t - i * 8) (drop (i * 8) t))
      → next ≡ mixed hash word → mixed_words (n - (i + 1)) next (drop ((i + 1) * 8) t) ≡ mixed_words n 0 t
  hash-more word next h so_far e f =
      let read : word ≡ head_of (drop (i * 8) t) = e ∙ ap head_of (rest t (i * 8)) in
      let moved : drop 8 (drop (i * 8) t) ≡ drop ((i + 1) * 8) t = drop-drop 8 (i * 8) t ∙ ap (λ k. drop k t) (omega arith) in
      ap (λ k. mixed_words (n - (i + 1)) k (drop ((i + 1) * 8) t)) (f ∙ ap (mixed hash) read)
      ∙ ap (mixed_words (n - (i + 1)) (mixed hash (head_of (drop (i * 8) t)))) (sym moved)
      ∙ sym (one_word (n - i) (n - (i + 1)) hash (drop (i * 8) t) (omega arith))
      ∙ so_far

  -- the last bytes and the length
  pub hash-end : (last word then whole : ℕ) → n ≤ i → Comes → last ≡ length t - 8
      → word ≡ head_of (take (length t - last) (drop last t)) → then ≡ mixed hash word
      → whole ≡ mixed then (length t) → whole / 2 ^ 32 ≡ hash_of t
  unfolding hash_of
  hash-end last word then whole h so_far e f g k =
      let words : hash ≡ mixed_words n 0 t = sym (no_word (n - i) hash (drop (i * 8) t) (omega arith)) ∙ so_far in
      let read : word ≡ head_of (drop (length t - 8) t) = f ∙ ap head_of (rest t last ∙ ap (λ p. drop p t) e) in
      ap (λ w. w / 2 ^ 32) (k ∙ ap (λ w. mixed w (length t)) (g ∙ ap (λ w. mixed w word) words ∙ ap (mixed (mixed_words n 0 t)) read))
