-- Values at positions of a list of numbers, seen a block at a time.
use Rattle.std.proofs.Common.{◌≡◌, ℕ, ◌+◌, ◌-◌, ◌<◌, ◌≤◌, min, List, [], ◌∷◌, ◌++◌, map, length, take, drop, get_or, slice_get, Option, Some, None, refl, sym, ◌∙◌, ap, subst, arith}
use Rattle.std.specs.Prelude.{option_map}
use Rattle.std.specs.List.{All, AllByRecursion}
use Rattle.std.proofs.lemmas.List.{take_at, map-append, length-take-le, length-drop}
use Rattle.std.proofs.lemmas.List.Elements.{All-get_or, All-from_recursion}
use Rattle.std.proofs.lemmas.Option.{get_or_from_slice_get, slice_get-map, slice_get_within}
use Rattle.std.proofs.lemmas.Slice.{take-put_mid}
use Rattle.std.proofs.Math.Seq.{take-add}
use borrow.Rule.Slice.PartMut.{put_mid}
use Rattle.col_model.proofs.StatsLaws.{map-map}
use Rattle.col_values.proofs.PartLemmas.{room_kept}

-- ---- what holds of all values holds of those that were found

found_each : {X : Type 0} (P : X → Type 0) (values : List X) (at : List ℕ) (read : List X) → All P values
    → map Some read ≡ map (slice_get values) at → AllByRecursion P read
found_each P values at [] all e = tt
found_each P values [] (x ∷ read) all e = absurd (omega (arith, ap length e))
found_each P values (i ∷ at) (x ∷ read) all e =
    let first : Some x ≡ slice_get values i = ap (λ l. get_or l 0 None) e in
    let later : map Some read ≡ map (slice_get values) at = ap (drop 1) e in (
      subst P (get_or_from_slice_get values i x x (sym first)) (All-get_or P values i x (slice_get_within values i x (sym first)) all),
      found_each P values at read all later,
    )

-- what all values keep, those that are read at positions keep
pub found_all : {X : Type 0} (P : X → Type 0) (values : List X) (at : List ℕ) (m : ℕ) (read rest : List X)
    → length read ≡ m → All P values → map Some read ≡ map (slice_get values) at → All P (take m (read ++ rest))
found_all P values at m read rest long all e =
    subst (All P) (sym (take_at read rest m long)) (All-from_recursion P read (found_each P values at read all e))

-- ---- what they are seen as

each_mapped : {X Y : Type 0} (f : X → Y) (values : List X) (at : List ℕ)
    → map (λ i. option_map f (slice_get values i)) at ≡ map (slice_get (map f values)) at
each_mapped f values [] = refl
each_mapped f values (i ∷ at) =
    let here = slice_get-map f values i in
    let later = each_mapped f values at in
    λ j. sym here j ∷ later j

-- those of a block that was read, behind which others may stand
pub found_block :
    {X Y : Type 0} (f : X → Y) (values : List X) (at : List ℕ) (m : ℕ) (part : List (Option Y)) (read rest : List X)
    → length read ≡ m → part ≡ map (λ x. Some (f x)) (take m (read ++ rest))
    → map Some read ≡ map (slice_get values) at → part ≡ map (slice_get (map f values)) at
found_block f values at m part read rest long mapped is =
    mapped
    ∙ ap (map (λ x. Some (f x))) (take_at read rest m long)
    ∙ sym (map-map Some (option_map f) read)
    ∙ ap (map (option_map f)) is
    ∙ map-map (slice_get values) (option_map f) at
    ∙ each_mapped f values at

-- values that are read at positions and turned are the turned values there
pub seen_block :
    {X Y : Type 0} (f : X → Y) (values : List X) (at : List ℕ) (m : ℕ) (part : List Y) (read rest : List X)
    → length read ≡ m → part ≡ map f (take m (read ++ rest)) → map Some read ≡ map (slice_get values) at
    → map Some part ≡ map (slice_get (map f values)) at
seen_block f values at m part read rest long mapped is =
    found_block f values at m (map Some part) read rest long (ap (map Some) mapped ∙ map-map f Some (take m (read ++ rest))) is

-- ---- a block more

-- a front of an output is written: the output is as long as before, and a block has room
abbrev pub IsFilled : {X Y : Type 0} → List X → List X → List Y → ℕ → Type 0 → Type 0
IsFilled old output block done Filled = record {
  room : length output ≡ length old;
  block : 0 < length block;
  within : done ≤ length output;
  filled : Filled;
}

-- a block that is read and its part of the output are as long as was asked
pub record FitsBlock {X Y : Type 0} (done len : ℕ) (output part : List Y) (read : List X) : Type 0 where
  pub room : done + len ≤ length output
  pub read_long : length read ≡ len
  pub long : length part ≡ len
  pub kept : length (put_mid done (done + len - done) output part) ≡ length output

pub block_fits : {X Y : Type 0} (done len : ℕ) (output part : List Y) (block read : List X)
    → len ≡ min (length output - done) (length block) → done ≤ length output
    → length read ≡ length (take len block)
    → length part ≡ length (take (done + len - done) (drop done output)) → FitsBlock done len output part read
block_fits done len output part block read least within is_read is_part =
    let room : done + len ≤ length output = omega (arith, least) in
    let long : length part ≡ len =
    is_part
    ∙ length-take-le (done + len - done) (drop done output) (omega (arith, room, length-drop done output))
    ∙ omega arith in
    record {
      room = room;
      read_long = is_read ∙ length-take-le len block (omega (arith, least));
      long = long;
      kept = room_kept done len output part room long;
    }

behind : {Y : Type 0} (g : ℕ → Option Y) (indexes : List ℕ) (done m k : ℕ) (front part : List (Option Y)) → k ≡ m
    → front ≡ map g (take done indexes) → part ≡ map g (take k (drop done indexes))
    → front ++ part ≡ map g (take (done + m) indexes)
behind g indexes done m k front part count before next =
    ap (λ ys. ys ++ part) before
    ∙ ap (λ ys. map g (take done indexes) ++ ys) (next ∙ ap (λ n. map g (take n (drop done indexes))) count)
    ∙ sym (map-append g (take done indexes) (take m (drop done indexes)))
    ∙ ap (map g) (sym (take-add done m indexes))

written : {Y : Type 0} (done m : ℕ) (output part : List Y) → done + m ≤ length output → length part ≡ m
    → take (done + m) (put_mid done (done + m - done) output part) ≡ take done output ++ part
written done m output part room long =
    take-put_mid done (done + m - done) output part (done + m) (ap (λ n. done + n) (sym long)) (omega (arith, room))

-- a block of answers put behind those that are done is a block more that is done
pub found_more : {Y : Type 0} (g : ℕ → Option Y) (indexes : List ℕ) (done m k : ℕ) (output part : List (Option Y))
    → k ≡ m → done + m ≤ length output → length part ≡ m → part ≡ map g (take k (drop done indexes))
    → take done output ≡ map g (take done indexes)
    → take (done + m) (put_mid done (done + m - done) output part) ≡ map g (take (done + m) indexes)
found_more g indexes done m k output part count room long next before =
    written done m output part room long ∙ behind g indexes done m k (take done output) part count before next

-- a block of values put behind those that are done is a block more that is done
pub seen_more : {Y : Type 0} (g : ℕ → Option Y) (indexes : List ℕ) (done m k : ℕ) (output part : List Y) → k ≡ m
    → done + m ≤ length output → length part ≡ m → map Some part ≡ map g (take k (drop done indexes))
    → map Some (take done output) ≡ map g (take done indexes)
    → map Some (take (done + m) (put_mid done (done + m - done) output part)) ≡ map g (take (done + m) indexes)
seen_more g indexes done m k output part count room long next before =
    ap (map Some) (written done m output part room long)
    ∙ map-append Some (take done output) part
    ∙ behind g indexes done m k (map Some (take done output)) (map Some part) count before next
