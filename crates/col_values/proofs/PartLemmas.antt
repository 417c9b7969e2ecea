-- A part of a list of values, mapped a block at a time.
use Rattle.std.proofs.Common.{◌≡◌, ℕ, ◌+◌, ◌-◌, ◌≤◌, List, ◌++◌, map, length, take, drop, sym, ◌∙◌, ap, arith, length-drop}
use Rattle.std.proofs.lemmas.List.{length-map, length-take-le, take_at, take_all, take-map, drop-map, drop-drop, map-append}
use Rattle.std.proofs.lemmas.Slice.{take-put_mid}
use Rattle.std.proofs.Math.Seq.{take-add}
use borrow.Rule.Slice.PartMut.{put_mid, same_len_mid}

-- a list keeps its length where a part of it is written
pub room_kept : {Y : Type 0} (filled m : ℕ) (output part : List Y) → filled + m ≤ length output → length part ≡ m
    → length (put_mid filled (filled + m - filled) output part) ≡ length output
room_kept filled m output part h long =
    let count : filled + m - filled ≡ m = omega arith in
    same_len_mid filled (filled + m - filled) output part
    (long ∙ sym (length-take-le (filled + m - filled) (drop filled output) (omega (arith, length-drop filled output)) ∙ count))

module _ {X Y : Type 0} (there : X → Y) (values : List X) where
  -- a block that was read, behind which others may stand, is mapped
  pub block_mapped : (from m k : ℕ) (part : List Y) (read rest : List X) → length read ≡ m → k ≡ m
      → part ≡ map there (take m (read ++ rest)) → read ≡ take k (drop from values)
      → part ≡ map there (take m (drop from values))
  block_mapped from m k part read rest long count mapped is =
      mapped ∙ ap (map there) (take_at read rest m long ∙ is ∙ ap (λ n. take n (drop from values)) count)

  -- a block that is mapped is as long as it was read
  pub block_long : (m : ℕ) (part : List Y) (read rest : List X) → length read ≡ m
      → part ≡ map there (take m (read ++ rest)) → length part ≡ m
  block_long m part read rest long mapped = ap length (mapped ∙ ap (map there) (take_at read rest m long)) ∙ length-map read there ∙ long

  -- what the next values are mapped to stands behind what was written
  pub part_mapped : (start filled m : ℕ) (output part : List Y) → filled + m ≤ length output → length part ≡ m
      → part ≡ map there (take m (drop (start + filled) values))
      → take filled output ≡ map there (take filled (drop start values))
      → take (filled + m) (put_mid filled (filled + m - filled) output part)
      ≡ map there (take (filled + m) (drop start values))
  part_mapped start filled m output part room long next before =
      take-put_mid filled (filled + m - filled) output part (filled + m) (ap (λ n. filled + n) (sym long)) (omega (arith, room))
      ∙ ap (λ xs. xs ++ part) before
      ∙ ap (λ xs. map there (take filled (drop start values)) ++ xs)
      (next ∙ ap (λ l. map there (take m l)) (sym (drop-drop filled start values)))
      ∙ sym (map-append there (take filled (drop start values)) _)
      ∙ ap (map there) (sym (take-add filled m (drop start values)))

  -- all of the part is written
  pub whole_mapped : (start filled n : ℕ) (output : List Y) → length output ≡ n → filled ≡ n
      → take filled output ≡ map there (take filled (drop start values))
      → output ≡ take n (drop start (map there values))
  whole_mapped start filled n output long all written =
      sym (take_all filled output (omega (arith, long, all))) ∙ written
      ∙ sym (take-map there filled (drop start values)) ∙ ap (take filled) (sym (drop-map there start values))
      ∙ ap (λ m. take m (drop start (map there values))) all
