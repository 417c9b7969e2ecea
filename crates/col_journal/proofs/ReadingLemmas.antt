-- A journal that is read, a change at a time.
use Rattle.std.proofs.Common.{◌≡◌, ◌≢◌, ℕ, ◌+◌, ◌-◌, ◌<◌, ◌≤◌, min, nat_le, Bool, true, false, List, [], ◌∷◌, ◌++◌, length, take, drop, get_or, slice_range, Option, Some, None, option_map, if◌then◌else◌, IfSome, Ok, Err, OnOk, refl, sym, ◌∙◌, ap, subst, arith, append_assoc, length-append, length-take, length-drop, take-append-drop}
use Rattle.std.proofs.lemmas.Bool.{le-leb}
use Rattle.std.proofs.lemmas.List.{drop-drop, drop_more, drop-take, get_or-take, get_or-drop, length-take-le, drop_all, take_all}
use Rattle.std.specs.Int.{w64, from_le_bytes}
use Rattle.col_common.specs.Outside.{Told}
use Rattle.col_common.specs.Reading.{only_if}
use Rattle.col_disk.specs.Crash.{overwritten}
use Rattle.col_disk.specs.Disks.{Answer, IsDisk, IsDurable, SeenDisk, Stays}
use Rattle.col_disk.proofs.Moments.{stays_both}
use Rattle.col_journal.specs.Journal.{Change, AreChanges, told_length, front_change, changes_within, changes_from, changes_of}
use Rattle.col_journal.specs.Settled.{IsReadTo, IsSettled, IsShutAt}
use Rattle.col_journal.proofs.ChangeLemmas.{Front, front_of_size, front-parts, changes-more, none_are_none, changes-cut, changes-open, changes-shut, changes-ended}
use Rattle.col_journal.proofs.SettledLemmas.{cut_at, front_taken, open_parts}
use Rattle.col_journal.proofs.AppendLemmas.{told_is}

-- a disk of at most one byte stands for no change
short_none : (bytes : List ℕ) → length bytes ≤ 1 → changes_of bytes ≡ Some []
short_none bytes short = ap (λ b. if b then Some [] else changes_from bytes) (le-leb (length bytes) 1 short)

-- so many bytes at most are told
told_at_most : (told : Told) (size n : ℕ) → IfSome told (λ b. length b ≡ size) → size ≤ n → IfSome told (λ b. length b ≤ n)
told_at_most None size n is le = tt
told_at_most (Some b) size n is le = omega (arith, is, le)

-- a closed gate that was written to a disk of at most one byte is a journal that is read to its first gate
gate_written : (disk : SeenDisk) {mid : Told} (old : Told) (r : Answer) → mid ≡ old
    → OnOk r (IfSome mid (λ held. IsDurable disk (overwritten 0 (0 ∷ []) held))) → IfSome old (λ held. length held ≤ 1)
    → OnOk r (IfSome old (λ held. IsReadTo disk 0 [] (changes_of held)))
gate_written disk None (Ok done) same durable short = tt
gate_written disk {mid} (Some held) (Ok done) same durable short =
    let d = told_is (λ b. IsDurable disk (overwritten 0 (0 ∷ []) b)) same durable in
    record {
      bytes = overwritten 0 (0 ∷ []) held;
      told = d.told;
      only = d.only;
      inside = omega arith;
      front = none_are_none;
      whole = changes-shut 0 (drop 1 held) (λ e. omega (arith, e)) ∙ sym (short_none held short);
    }
gate_written disk old (Err e) same durable short = tt

-- so it is behind a sync
pub ready_written : {old mid : SeenDisk} (new : SeenDisk) (r : Answer) → Stays old mid
    → IfSome old.told (λ b. length b ≡ old.size) → mid.size ≤ 1
    → OnOk r (IfSome mid.told (λ held. IsDurable new (overwritten 0 (0 ∷ []) held)))
    → OnOk r (IfSome old.told (λ held. IsReadTo new 0 [] (changes_of held)))
ready_written {old} new r stays whole short durable =
    gate_written new old.told r stays.told durable (told_at_most old.told old.size 1 whole (omega (arith, stays.size, short)))

-- the change of so many bytes behind a gate
abbrev change_at : List ℕ → ℕ → ℕ → Change
change_at bytes gate size = (front_of_size (drop (gate + 1) bytes) size).0

-- the bytes behind a gate, where a change of so many bytes stands there
module _ (rest : List ℕ) (size : ℕ) (is : size ≡ told_length rest) (room : 9 + size ≤ length rest) where
  -- the change, the eight bytes of its length, all of its bytes, and what follows
  abbrev change : Change
  change = (front_of_size rest size).0

  abbrev eight : List ℕ
  eight = take 8 (drop 1 rest)

  abbrev spelled : List ℕ
  spelled = change.kind ∷ eight ++ change.bytes

  abbrev tail : List ℕ
  tail = drop size (drop 9 rest)

  -- how long each is
  eight_long : length eight ≡ 8
  eight_long = omega (arith, length-take 8 (drop 1 rest), length-drop 1 rest, room)

  bytes_long : length change.bytes ≡ size
  bytes_long = omega (arith, length-take size (drop 9 rest), length-drop 9 rest, room)

  spelled_long : length spelled ≡ 9 + size
  spelled_long = omega (arith, length-append eight change.bytes, eight_long, bytes_long)

  -- the bytes are the change's, and what follows
  rest_is : rest ≡ spelled ++ tail
  rest_is =
      let first : rest ≡ change.kind ∷ drop 1 rest = drop_more rest 0 0 (omega (arith, room)) in
      let second : drop 1 rest ≡ eight ++ drop 9 rest =
      sym (take-append-drop 8 (drop 1 rest)) ∙ ap (λ (l : List ℕ). eight ++ l) (drop-drop 8 1 rest) in
      let third : drop 9 rest ≡ change.bytes ++ tail = sym (take-append-drop size (drop 9 rest)) in
      first ∙ ap (λ (l : List ℕ). change.kind ∷ l) (second ∙ ap (λ (l : List ℕ). eight ++ l) third)
      ∙ sym (append_assoc (change.kind ∷ eight) change.bytes tail)

  -- so the change is found there, whatever follows
  found : (tail : List ℕ) → front_change (spelled ++ tail) ≡ Some (change, tail)
  found tail =
      ap front_change (append_assoc (change.kind ∷ eight) change.bytes tail)
      ∙ front-parts change.kind eight change.bytes tail eight_long (sym is ∙ sym bytes_long)

-- one change more was read
changes_found : (bytes : List ℕ) (gate size : ℕ) (changes : List Change) → gate < length bytes → get_or bytes gate 0 ≡ 1
    → AreChanges (take gate bytes) changes → size ≡ told_length (drop (gate + 1) bytes) → gate + 10 + size ≤ length bytes
    → AreChanges (take (gate + 10 + size) bytes) (changes ++ change_at bytes gate size ∷ [])
changes_found bytes gate size changes inside is_open are is fits =
    let rest : List ℕ = drop (gate + 1) bytes in
    let room : 9 + size ≤ length rest = omega (arith, length-drop (gate + 1) bytes, fits) in
    let front : List ℕ = take gate bytes in
    let piece : List ℕ = spelled rest size is room in
    let more : List ℕ = tail rest size is room in
    let whole : List ℕ = front ++ 1 ∷ piece in
    let parts : bytes ≡ whole ++ more =
    open_parts front piece more rest bytes _ (cut_at bytes gate inside) is_open (rest_is rest size is room) in
    let long : length whole ≡ gate + 10 + size =
    omega (arith, length-append front (1 ∷ piece), length-take-le gate bytes (omega (arith, inside)), spelled_long rest size is room) in
    let taken = front_taken whole more bytes (gate + 10 + size) parts long in
    subst (λ (l : List ℕ). AreChanges l (changes ++ change_at bytes gate size ∷ [])) (sym taken)
    (changes-more front piece changes (change_at bytes gate size) (found rest size is room) are)

-- no change and gate stand whole behind the open gate
no_more : (rest : List ℕ) → length rest < 10 + told_length rest → changes_from (1 ∷ rest) ≡ None
unfolding front_change changes_within
no_more rest short = go (nat_le (9 + told_length rest) (length rest)) refl
  where
    front : Front
    front = front_of_size rest (told_length rest)

    go : (b : Bool) → nat_le (9 + told_length rest) (length rest) ≡ b → changes_from (1 ∷ rest) ≡ None
    go true p =
        let there : front_change rest ≡ Some front = ap (λ b. only_if {A = Front} b front) p in
        let none_left : front.1 ≡ [] = drop_all (9 + told_length rest) rest (omega (arith, short)) in
        changes-open rest _ _ there ∙ ap (λ (l : List ℕ). option_map (λ more. front.0 ∷ more) (changes_from l)) none_left
    go false p =
        let none : front_change rest ≡ None = ap (λ b. only_if {A = Front} b front) p in
        changes-cut rest none

-- the parts of a head, which begins at a gate
module _ (bytes head : List ℕ) (gate n : ℕ) (is : head ≡ slice_range bytes gate (gate + n)) where
  -- it is the first bytes from the gate on
  taken : head ≡ take n (drop gate bytes)
  taken = let count : gate + n - gate ≡ n = omega arith in is ∙ ap (λ (k : ℕ). take k (drop gate bytes)) count

  -- the gate
  gate_byte : 0 < n → get_or head 0 0 ≡ get_or bytes gate 0
  gate_byte some =
      let place : gate + 0 ≡ gate = omega arith in
      ap (λ (l : List ℕ). get_or l 0 0) taken ∙ get_or-take n (drop gate bytes) 0 0 some ∙ get_or-drop gate bytes 0 0
      ∙ ap (λ (k : ℕ). get_or bytes k 0) place

  -- the kind
  kind_byte : n ≡ 10 → get_or head 1 0 ≡ get_or (drop (gate + 1) bytes) 0 0
  kind_byte ten =
      let place : gate + 1 ≡ gate + 1 + 0 = omega arith in
      ap (λ (l : List ℕ). get_or l 1 0) taken ∙ get_or-take n (drop gate bytes) 1 0 (omega (arith, ten)) ∙ get_or-drop gate bytes 1 0
      ∙ ap (λ (k : ℕ). get_or bytes k 0) place ∙ sym (get_or-drop (gate + 1) bytes 0 0)

  -- the length
  length_bytes : n ≡ 10 → from_le_bytes w64 (slice_range head 2 (length head)) ≡ told_length (drop (gate + 1) bytes)
  length_bytes ten =
      let rest : slice_range head 2 (length head) ≡ drop 2 head =
      take_all (length head - 2) (drop 2 head) (omega (arith, length-drop 2 head)) in
      let eight : drop 2 head ≡ take 8 (drop 2 (drop gate bytes)) =
      ap (drop 2) taken ∙ ap (λ (k : ℕ). drop 2 (take k (drop gate bytes))) ten ∙ drop-take 2 8 (drop gate bytes) in
      let place : gate + 2 ≡ gate + 1 + 1 = omega arith in
      let same : drop 2 (drop gate bytes) ≡ drop 1 (drop (gate + 1) bytes) =
      drop-drop 2 gate bytes ∙ ap (λ (k : ℕ). drop k bytes) place ∙ sym (drop-drop 1 (gate + 1) bytes) in
      ap (from_le_bytes w64) (rest ∙ eight) ∙ ap (λ (l : List ℕ). from_le_bytes w64 (take 8 l)) same

-- what the head at a gate tells, with so many bytes from the gate on
pub record IsHead (bytes head : List ℕ) (gate room : ℕ) : Type 0 where
  pub room_is : gate + room ≡ length bytes
  pub gate_is : get_or head 0 0 ≡ get_or bytes gate 0
  pub kind_is : 10 < room → get_or head 1 0 ≡ get_or (drop (gate + 1) bytes) 0 0
  pub length_is : 10 < room → from_le_bytes w64 (slice_range head 2 (length head)) ≡ told_length (drop (gate + 1) bytes)

-- where it was cut out of what the disk tells
head_is : {told : Told} {bytes : List ℕ} (head : List ℕ) (gate n size : ℕ) → told ≡ Some bytes → gate < size
    → n ≡ min (size - gate) 10 → IfSome told (λ b. length b ≡ size) → IfSome told (λ b. head ≡ slice_range b gate (gate + n))
    → IsHead bytes head gate (size - gate)
head_is {told} {bytes} head gate n size is inside n_is whole cut =
    let long = told_is (λ b. length b ≡ size) is whole in
    let part = told_is (λ b. head ≡ slice_range b gate (gate + n)) is cut in
    record {
      room_is = omega (arith, inside, long);
      gate_is = gate_byte bytes head gate n part (omega (arith, n_is, inside));
      kind_is = λ more. kind_byte bytes head gate n part (omega (arith, n_is, more));
      length_is = λ more. length_bytes bytes head gate n part (omega (arith, n_is, more));
    }

-- the bytes of a change
bytes_at : (bytes : List ℕ) (gate size : ℕ) → slice_range bytes (gate + 10) (gate + 10 + size) ≡ (change_at bytes gate size).bytes
bytes_at bytes gate size =
    let n : gate + 10 + size - (gate + 10) ≡ size = omega arith in
    let at : gate + 10 ≡ gate + 1 + 9 = omega arith in
    ap (λ (k : ℕ). take k (drop (gate + 10) bytes)) n ∙ ap (λ (k : ℕ). take size (drop k bytes)) at
    ∙ ap (take size) (sym (drop-drop 9 (gate + 1) bytes))

module _ {disk : SeenDisk} {gate : ℕ} {changes : List Change} {all : Option (List Change)} (read : IsReadTo disk gate changes all) where
  -- what the head tells that was read there
  pub read_head : {front head : List ℕ} (n : ℕ) → IsDisk disk → gate < disk.size → n ≡ min (disk.size - gate) 10
      → IfSome disk.told (λ b. front ≡ slice_range b gate (gate + n)) → head ≡ front → IsHead read.bytes head gate (disk.size - gate)
  read_head {front} n laws inside n_is cut same =
      subst (λ h. IsHead read.bytes h gate (disk.size - gate)) (sym same)
      (head_is front gate n disk.size read.told inside n_is laws.told_whole cut)

  -- the journal is cut short there
  pub cut_short : get_or read.bytes gate 0 ≡ 1 → length read.bytes < gate + 11 + told_length (drop (gate + 1) read.bytes) → all ≡ None
  cut_short is_open short =
      let bytes = read.bytes in
      let rest : List ℕ = drop (gate + 1) bytes in
      let front : List ℕ = take gate bytes in
      let parts : bytes ≡ front ++ 1 ∷ rest = cut_at bytes gate read.inside ∙ ap (λ (g : ℕ). front ++ g ∷ rest) is_open in
      let none = no_more rest (omega (arith, length-drop (gate + 1) bytes, short, read.inside)) in
      sym read.whole ∙ ap changes_from parts ∙ read.front (1 ∷ rest) ∙ ap (option_map (λ more. changes ++ more)) none

  -- the journal ends there
  pub read_to_end : {new : SeenDisk} → Stays disk new → get_or read.bytes gate 0 ≢ 1 → IsSettled new gate changes × (all ≡ Some changes)
  read_to_end {new} stays shut =
      let bytes = read.bytes in
      let ends : IsShutAt gate changes bytes = record { inside = read.inside; shut = shut; front = read.front } in
      let settled : IsSettled new gate changes = record {
        bytes = bytes;
        told = stays.told ∙ read.told;
        each = λ c left. subst (IsShutAt gate changes) (sym (read.only c (stays.images.fewer c left))) ends;
      } in
      let last = changes-ended (take gate bytes) changes (get_or bytes gate 0) (drop (gate + 1) bytes) read.front shut in
      (settled, sym read.whole ∙ ap changes_from (cut_at bytes gate read.inside) ∙ last)

  -- one change was read
  pub read_one : {mid new : SeenDisk} {kind : ℕ} (part : List ℕ) (size : ℕ) → Stays disk mid → Stays mid new
      → get_or read.bytes gate 0 ≡ 1 → size ≡ told_length (drop (gate + 1) read.bytes) → gate + 10 + size < length read.bytes
      → kind ≡ get_or (drop (gate + 1) read.bytes) 0 0
      → IfSome mid.told (λ b. part ≡ slice_range b (gate + 10) (gate + 10 + size))
      → IsReadTo new (gate + 10 + size) (changes ++ record { kind = kind; bytes = part } ∷ []) all
  read_one {mid} {new} {kind} part size first second is_open is inside kind_is cut =
      let bytes = read.bytes in
      let next : ℕ = gate + 10 + size in
      let stays = stays_both first second in
      let part_is = told_is (λ b. part ≡ slice_range b (gate + 10) next) (first.told ∙ read.told) cut in
      let body = part_is ∙ bytes_at bytes gate size in
      let same : change_at bytes gate size ≡ record { kind = kind; bytes = part } =
      sym (λ i. record { kind = kind_is i; bytes = body i }) in
      let are = changes_found bytes gate size changes read.inside is_open read.front is (omega (arith, inside)) in
      record {
        bytes = bytes;
        told = stays.told ∙ read.told;
        only = λ c left. read.only c (stays.images.fewer c left);
        inside = inside;
        front = subst (λ ch. AreChanges (take next bytes) (changes ++ ch ∷ [])) same are;
        whole = read.whole;
      }
