-- For a writer that cuts a list into blocks, one after another.
use Rattle.std.proofs.Common.{◌≡◌, ℕ, zero, suc, ◌+◌, ◌*◌, ◌≤◌, List, [], ◌∷◌, ◌++◌, length, take, drop, refl, ap, sym, ◌∙◌, arith, append_assoc, append-nil, add-one, map, ap₂}
use Rattle.std.proofs.lemmas.List.{length-drop, drop-drop, take-append-le, drop-append-le, length-map}
use Rattle.std.proofs.Math.Seq.{take-append_seam, drop-append_seam}
use Rattle.col_model.specs.Dictionary.{cut}
use Rattle.col_model.specs.U64List.{joined_lists}
use Rattle.col_model.specs.Codecs.{block_size, cut_blocks}

-- a list behind others
pub joined_lists-push : {A : Type 0} (xss : List (List A)) (xs : List A) → joined_lists (xss ++ xs ∷ []) ≡ joined_lists xss ++ xs
joined_lists-push [] xs = append-nil xs
joined_lists-push (ys ∷ xss) xs = ap (λ r. ys ++ r) (joined_lists-push xss xs) ∙ sym (append_assoc ys (joined_lists xss) xs)

-- turning their values leaves rows as long as they are
pub lengths-map : {A B : Type 0} (f : A → B) (xss : List (List A)) → map length (map (map f) xss) ≡ map length xss
lengths-map f [] = refl
lengths-map f (xs ∷ xss) = ap₂ (λ n ns. n ∷ ns) (length-map xs f) (lengths-map f xss)

-- lists that are joined are cut apart by their lengths
pub cut-joined : {A : Type 0} (xss : List (List A)) → cut (map length xss) (joined_lists xss) ≡ xss
unfolding cut
cut-joined [] = refl
cut-joined (xs ∷ xss) =
    ap₂ (λ a b. a ∷ b) (take-append_seam xs (joined_lists xss))
    (ap (cut (map length xss)) (drop-append_seam xs (joined_lists xss)) ∙ cut-joined xss)

-- block k of a list
abbrev pub block_at : ℕ → List ℕ → List ℕ
block_at k xs = take block_size (drop (512 * k) xs)

later-block : (k : ℕ) (xs : List ℕ) → block_at k (drop block_size xs) ≡ block_at (suc k) xs
later-block k xs =
    let e : 512 + 512 * k ≡ 512 * suc k = omega arith in ap (take block_size)
    (drop-drop (512 * k) 512 xs ∙ ap (λ n. drop n xs) e)

-- one block more
pub cut_blocks-more : (k : ℕ) (xs : List ℕ) → cut_blocks (k + 1) xs ≡ cut_blocks k xs ++ block_at k xs ∷ []
unfolding cut_blocks
cut_blocks-more zero xs = refl
cut_blocks-more (suc k) xs =
    let next : suc k ≡ k + 1 = omega arith in
    let later : cut_blocks (suc k) (drop block_size xs) ≡ cut_blocks k (drop block_size xs) ++ block_at (suc k) xs ∷ [] =
    ap (λ m. cut_blocks m (drop block_size xs)) next ∙ cut_blocks-more k (drop block_size xs)
    ∙ ap (λ b. cut_blocks k (drop block_size xs) ++ b ∷ []) (later-block k xs) in
    rw (add-one, later) refl

-- what comes behind whole blocks changes none of them
pub cut_blocks-append : (k : ℕ) (xs ys : List ℕ) → 512 * k ≤ length xs → cut_blocks k (xs ++ ys) ≡ cut_blocks k xs
unfolding cut_blocks
cut_blocks-append zero xs ys h = refl
cut_blocks-append (suc k) xs ys h =
    let room : 512 ≤ length xs = omega arith in
    rw (
      take-append-le block_size xs ys room,
      drop-append-le block_size xs ys room,
      cut_blocks-append k (drop block_size xs) ys (rw (length-drop block_size xs) (omega arith)),
    ) refl
