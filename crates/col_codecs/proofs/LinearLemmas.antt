-- Lists under Linear: deviations of a list that grows, and what an estimator holds of it.
use Rattle.std.proofs.Common.{◌≡◌, ℕ, suc, ◌+◌, ◌-◌, ◌%◌, ◌^◌, ◌<◌, ◌≤◌, min, max, List, [], ◌∷◌, ◌++◌, map, length, take, set, refl, sym, ap, ◌∙◌, subst, arith}
use Rattle.std.specs.List.{enumerate_from}
use Rattle.std.proofs.lemmas.List.{take_all, take_more_set, length-set, length_push, take-append-le}
use Rattle.std.proofs.lemmas.List.Sums.{fold_push}
use Rattle.col_model.specs.Stats.{least_of, greatest_of}
use Rattle.col_model.specs.Training.{line_of, less_wrapped}
use Rattle.col_model.specs.U64List.{LinearParams as LineAndWidth}
use Rattle.col_model.specs.Codecs.{block_size, half_space, deviation, deviations, linear_line}
use Rattle.col_bits.specs.Packed.{width}
use Rattle.col_model.proofs.U64ListLaws.{least_le-greatest}
use Rattle.col_codecs.proofs.TurningLemmas.{by_position-append}
use Rattle.col_codecs.specs.Line.{line_seen}
use Rattle.col_codecs.specs.Linear.{first_line, IsTrained, IsCollected, IsFinalized}
use Rattle.col_codecs.specs.declared.linear.estimator.LinearCodecEstimator.{LinearCodecEstimator}

-- ---- lists that grow

least_of-push : (xs : List ℕ) (x : ℕ) → 0 < length xs → least_of (xs ++ x ∷ []) ≡ min (least_of xs) x
least_of-push [] x p = absurd (omega arith)
least_of-push (y ∷ xs) x p = fold_push min y xs x

deviations-push : (l : ℕ × ℕ) (xs : List ℕ) (x : ℕ) → deviations l (xs ++ x ∷ []) ≡ deviations l xs ++ deviation l (length xs, x) ∷ []
deviations-push l xs x =
    let e : 0 + length xs ≡ length xs = omega arith in
    by_position-append (deviation l) 0 xs (x ∷ []) ∙ ap (λ n. deviations l xs ++ deviation l (n, x) ∷ []) e

length-deviations : (l : ℕ × ℕ) (xs : List ℕ) → length (deviations l xs) ≡ length xs
length-deviations l xs = from 0 xs
  where
    from : (k : ℕ) (ys : List ℕ) → length (map (deviation l) (enumerate_from k ys)) ≡ length ys
    from k [] = refl
    from k (y ∷ ys) = ap suc (from (k + 1) ys)

-- ---- an estimator

-- the line of the first values stays where there are enough of them
first_line-push : (xs : List ℕ) (x : ℕ) → block_size ≤ length xs → first_line (xs ++ x ∷ []) ≡ first_line xs
first_line-push xs x h = ap line_of (take-append-le block_size xs (x ∷ []) h)

-- one deviation more
trained-more : (e f : LinearCodecEstimator) (xs : List ℕ) (x d : ℕ) → block_size ≤ length xs → IsTrained e xs
    → d ≡ deviation (line_seen e.linear_params.line) (length xs, x) → f.linear_params ≡ e.linear_params
    → f.min_deviation ≡ min e.min_deviation d → f.max_deviation ≡ max e.max_deviation d → IsTrained f (xs ++ x ∷ [])
trained-more e f xs x d enough t is s low high =
    let l = first_line xs in
    let ds = deviations l xs in
    let same : first_line (xs ++ x ∷ []) ≡ l = first_line-push xs x enough in
    let here : d ≡ deviation l (length xs, x) = is ∙ ap (λ k. deviation k (length xs, x)) t.line in
    let some : 0 < length ds = omega (arith, length-deviations l xs, enough) in
    let grown : deviations (first_line (xs ++ x ∷ [])) (xs ++ x ∷ []) ≡ ds ++ d ∷ [] =
    ap (λ k. deviations k (xs ++ x ∷ [])) same ∙ deviations-push l xs x ∙ ap (λ v. ds ++ v ∷ []) (sym here) in
    record {
      line = ap (λ k. line_seen k.line) s ∙ t.line ∙ sym same;
      lowest = low ∙ ap (λ m. min m d) t.lowest ∙ sym (ap least_of grown ∙ least_of-push ds d some);
      highest = high ∙ ap (λ m. max m d) t.highest ∙ sym (ap greatest_of grown ∙ fold_push max 0 ds d);
    }

-- a value behind the first ones
pub collected-deviates : (e f : LinearCodecEstimator) (xs : List ℕ) (x d : ℕ) → IsCollected e xs
    → block_size ≤ e.row_id → d ≡ deviation (line_seen e.linear_params.line) (e.row_id, x) → f.block ≡ e.block
    → f.row_id ≡ e.row_id + 1 → f.linear_params ≡ e.linear_params → f.min_deviation ≡ min e.min_deviation d
    → f.max_deviation ≡ max e.max_deviation d → IsCollected f (xs ++ x ∷ [])
collected-deviates e f xs x d h enough is b n s low high =
    let many : block_size ≤ length xs = omega (arith, enough, h.count) in
    let here : d ≡ deviation (line_seen e.linear_params.line) (length xs, x) =
    is ∙ ap (λ k. deviation (line_seen e.linear_params.line) (k, x)) h.count in
    let room : length e.block.items ≡ block_size = h.room in
    let whole : take (e.row_id + 1) e.block.items ≡ take e.row_id e.block.items =
    take_all (e.row_id + 1) e.block.items (omega (arith, room, enough))
    ∙ sym (take_all e.row_id e.block.items (omega (arith, room, enough))) in
    record {
      count = n ∙ ap (λ k. k + 1) h.count ∙ sym (length_push xs x);
      room = ap (λ v. length v.items) b ∙ h.room;
      held =
          ap (λ k. take k f.block.items) n ∙ ap (λ v. take (e.row_id + 1) v.items) b ∙ whole ∙ h.held
          ∙ sym (take-append-le block_size xs (x ∷ []) many);
      trained = λ more. trained-more e f xs x d many (h.trained many) here s low high;
    }

-- one of the first values: the buffer holds all of them
first-held : (e : LinearCodecEstimator) (xs items : List ℕ) (x : ℕ) → IsCollected e xs → e.row_id < block_size
    → items ≡ set e.block.items e.row_id x
    → (length items ≡ block_size) × (take (e.row_id + 1) items ≡ xs ++ x ∷ [])
    × (xs ++ x ∷ [] ≡ take block_size (xs ++ x ∷ []))
first-held e xs items x h few is =
    let room : e.row_id < length e.block.items = omega (arith, h.room, few) in
    let short : length xs ≤ block_size = omega (arith, h.count, few) in
    let long : length (xs ++ x ∷ []) ≤ block_size = omega (arith, h.count, few, length_push xs x) in (
      ap length is ∙ length-set e.block.items e.row_id x ∙ h.room,
      ap (take (e.row_id + 1)) is ∙ take_more_set e.block.items e.row_id x room
          ∙ ap (λ ys. ys ++ x ∷ []) (h.held ∙ take_all block_size xs short),
      sym (take_all block_size (xs ++ x ∷ []) long),
    )

-- one that leaves room
pub collected-first : (e f : LinearCodecEstimator) (xs : List ℕ) (x : ℕ) → IsCollected e xs
    → e.row_id + 1 < block_size → f.block.items ≡ set e.block.items e.row_id x → f.row_id ≡ e.row_id + 1
    → IsCollected f (xs ++ x ∷ [])
collected-first e f xs x h few is n =
    let k = first-held e xs f.block.items x h (omega arith) is in
    let long : length (xs ++ x ∷ []) ≡ e.row_id + 1 = length_push xs x ∙ ap (λ m. m + 1) (sym h.count) in
    record {
      count = n ∙ sym long;
      room = k.0;
      held = ap (λ m. take m f.block.items) n ∙ k.1 ∙ k.2;
      trained = λ more. absurd (omega (arith, long, few, more));
    }

-- the one that fills the buffer
pub collected-full : (e f : LinearCodecEstimator) (xs items : List ℕ) (x : ℕ) → IsCollected e xs
    → e.row_id + 1 ≡ block_size → items ≡ set e.block.items e.row_id x → f.block.items ≡ items
    → f.row_id ≡ e.row_id + 1 → IsTrained f items → IsCollected f (xs ++ x ∷ [])
collected-full e f xs items x h full is b n t =
    let k = first-held e xs items x h (omega (arith, full)) is in
    let whole : items ≡ xs ++ x ∷ [] = sym (take_all (e.row_id + 1) items (omega (arith, k.0, full))) ∙ k.1 in
    record {
      count = n ∙ ap (λ m. m + 1) h.count ∙ sym (length_push xs x);
      room = ap length b ∙ k.0;
      held = ap (λ m. take m f.block.items) n ∙ ap (take (e.row_id + 1)) b ∙ k.1 ∙ k.2;
      trained = λ more. subst (λ ys. IsTrained f ys) whole t;
    }

-- the bounds stand in their order
pub collected-ordered : (e : LinearCodecEstimator) (xs : List ℕ) → IsCollected e xs → block_size ≤ e.row_id
    → e.min_deviation ≤ e.max_deviation
collected-ordered e xs h enough =
    let t = h.trained (omega (arith, h.count, enough)) in
    omega (arith, t.lowest, t.highest, least_le-greatest (deviations (first_line xs) xs))

same_slope : (a b c d w v : ℕ) → a ≡ b → c ≡ d → w ≡ v
    → let left : LineAndWidth = record { slope = a; intercept = c; offset_width = w } in let right : LineAndWidth =
    record { slope = b; intercept = d; offset_width = v } in left ≡ right
same_slope a b c d w v p q r = cc

-- too few values for a line
pub finalized-few : (e : LinearCodecEstimator) (xs : List ℕ) → IsCollected e xs → e.row_id < block_size → IsFinalized e xs
finalized-few e xs h few = record { count = h.count; final = λ more. absurd (omega (arith, h.count, few, more)) }

-- the raised line is the final one
pub finalized-raised : (e f : LinearCodecEstimator) (xs : List ℕ) → IsCollected e xs → block_size ≤ e.row_id
    → f.row_id ≡ e.row_id → f.linear_params.line.slope ≡ e.linear_params.line.slope
    → f.linear_params.line.intercept
    ≡ ((e.linear_params.line.intercept + e.min_deviation) % 2 ^ 64 + (2 ^ 64 - half_space)) % 2 ^ 64
    → f.linear_params.offset_width ≡ width (e.max_deviation - e.min_deviation) → IsFinalized f xs
unfolding linear_line
finalized-raised e f xs h enough n s i w =
    let t = h.trained (omega (arith, h.count, enough)) in
    let l = first_line xs in
    let low = least_of (deviations l xs) in
    let once : f.linear_params.line.intercept ≡ less_wrapped (e.linear_params.line.intercept + e.min_deviation)
    half_space = omega (arith, i) in
    record {
      count = n ∙ h.count;
      final =
          λ more. same_slope f.linear_params.line.slope l.0 f.linear_params.line.intercept
          (less_wrapped (l.1 + low) half_space) f.linear_params.offset_width
          (width (greatest_of (deviations l xs) - low))
          (s ∙ ap (λ k. k.0) t.line)
          (once ∙ ap (λ k. less_wrapped (k.1 + e.min_deviation) half_space) t.line ∙ ap (λ m. less_wrapped (l.1 + m) half_space) t.lowest)
          (w ∙ ap (λ m. width (m - e.min_deviation)) t.highest ∙ ap (λ m. width (greatest_of (deviations l xs) - m)) t.lowest);
    }
