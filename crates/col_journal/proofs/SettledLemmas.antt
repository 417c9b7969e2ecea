-- Where a journal ends, in each image, while a change is added.
use Rattle.std.proofs.Common.{◌≡◌, inl, inr, ⊎_elim, ℕ, ◌+◌, ◌<◌, ◌^◌, List, [], ◌∷◌, ◌++◌, length, take, drop, get_or, Some, sym, ◌∙◌, ap, subst, arith, append_assoc, length-append, length-take, take-append-drop}
use Rattle.std.proofs.lemmas.Bool.{cases_eq}
use Rattle.std.proofs.lemmas.List.{take_at, drop_at, drop_more, take-take, length-take-le, get_or-take, get_or_at}
use Rattle.col_disk.specs.Crash.{Torn, overwritten}
use Rattle.col_journal.specs.Journal.{Change, AreChanges, IsBeforeOrAfter, change_bytes, changes_from, changes_of}
use Rattle.col_journal.specs.Settled.{IsShutAt, IsStaged, behind_gate}
use Rattle.col_journal.proofs.ChangeLemmas.{changes-ended, changes-of, changes-more, front-spelled}

-- bytes cut at a place
pub cut_at : (bytes : List ℕ) (at : ℕ) → at < length bytes → bytes ≡ take at bytes ++ get_or bytes at 0 ∷ drop (at + 1) bytes
cut_at bytes at inside = sym (take-append-drop at bytes) ∙ ap (λ (l : List ℕ). take at bytes ++ l) (drop_more bytes at 0 inside)

-- an open gate and what follows it
pub open_parts : (front piece more rest bytes : List ℕ) (gate : ℕ) → bytes ≡ front ++ gate ∷ rest → gate ≡ 1 → rest ≡ piece ++ more
    → bytes ≡ (front ++ 1 ∷ piece) ++ more
open_parts front piece more rest bytes gate cut is_open same =
    cut ∙ (λ i. front ++ is_open i ∷ same i) ∙ sym (append_assoc front (1 ∷ piece) more)

-- the front of so many bytes
pub front_taken : (front rest bytes : List ℕ) (n : ℕ) → bytes ≡ front ++ rest → length front ≡ n → take n bytes ≡ front
front_taken front rest bytes n parts size = ap (take n) parts ∙ take_at front rest n size

-- a journal that ends there stands for its changes
pub ended : (gate : ℕ) (changes : List Change) (bytes : List ℕ) → IsShutAt gate changes bytes → changes_of bytes ≡ Some changes
ended gate changes bytes ends =
    let parts = ap changes_from (cut_at bytes gate ends.inside) in
    changes-of bytes changes
    (parts ∙ changes-ended (take gate bytes) changes (get_or bytes gate 0) (drop (gate + 1) bytes) ends.front ends.shut)

-- what has the same bytes up to the gate ends there too
ends_alike : (gate : ℕ) (changes : List Change) (old new : List ℕ) → IsShutAt gate changes old → take (gate + 1) new ≡ take (gate + 1) old
    → IsShutAt gate changes new
ends_alike gate changes old new ends same =
    let inside : gate < length new =
    omega (arith, length-take (gate + 1) new, length-take (gate + 1) old, ap length same, ends.inside) in
    let front : take gate new ≡ take gate old =
    sym (take-take gate (gate + 1) new (omega arith)) ∙ ap (take gate) same ∙ take-take gate (gate + 1) old (omega arith) in
    let byte : get_or new gate 0 ≡ get_or old gate 0 =
    sym (get_or-take (gate + 1) new gate 0 (omega arith)) ∙ ap (λ (l : List ℕ). get_or l gate 0) same
    ∙ get_or-take (gate + 1) old gate 0 (omega arith) in
    record {
      inside = inside;
      shut = λ is. ends.shut (sym byte ∙ is);
      front = subst (λ (l : List ℕ). AreChanges l changes) (sym front) ends.front;
    }

-- the gate stands in each outcome of a write behind it
pub torn_behind : (gate n : ℕ) (changes : List Change) (old new : List ℕ) → IsShutAt gate changes old → Torn (gate + 1) n old new
    → IsShutAt gate changes new
torn_behind gate n changes old new ends torn = ends_alike gate changes old new ends torn.before

-- the change stands behind the gate
pub staged : (gate : ℕ) (changes : List Change) (change : Change) (old : List ℕ) → IsShutAt gate changes old
    → IsStaged gate changes change (overwritten (gate + 1) (behind_gate change) old)
staged gate changes change old ends =
    let piece : List ℕ = behind_gate change in
    let front : List ℕ = take (gate + 1) old in
    let rest : List ℕ = drop (gate + 1 + length piece) old in
    let size : length front ≡ gate + 1 = length-take-le (gate + 1) old (omega (arith, ends.inside)) in
    let parts : overwritten (gate + 1) piece old ≡ front ++ (piece ++ rest) = append_assoc front piece rest in
    record {
      ends = ends_alike gate changes old _ ends (front_taken front (piece ++ rest) _ (gate + 1) parts size);
      tail = rest;
      behind = ap (drop (gate + 1)) parts ∙ drop_at front (piece ++ rest) (gate + 1) size;
    }

-- with the gate open, the journal has the change, and ends behind it
opened : (gate : ℕ) (changes : List Change) (change : Change) (bytes tail : List ℕ) → length change.bytes < 2 ^ 64
    → gate < length bytes → AreChanges (take gate bytes) changes → get_or bytes gate 0 ≡ 1
    → drop (gate + 1) bytes ≡ behind_gate change ++ tail → IsShutAt (gate + 10 + length change.bytes) (changes ++ change ∷ []) bytes
opened gate changes change bytes tail fits inside are is_open behind =
    let front : List ℕ = take gate bytes ++ 1 ∷ change_bytes change in
    let place : ℕ = gate + 10 + length change.bytes in
    let rest = behind ∙ append_assoc (change_bytes change) (0 ∷ []) tail in
    let parts : bytes ≡ front ++ 0 ∷ tail =
    open_parts (take gate bytes) (change_bytes change) (0 ∷ tail) (drop (gate + 1) bytes) bytes _ (cut_at bytes gate inside) is_open rest in
    let size : length front ≡ place =
    omega (arith, length-append (take gate bytes) (1 ∷ change_bytes change), length-take-le gate bytes (omega (arith, inside))) in
    let last : get_or bytes place 0 ≡ 0 = ap (λ (l : List ℕ). get_or l place 0) parts ∙ get_or_at front 0 tail 0 place size in
    let taken = front_taken front (0 ∷ tail) bytes place parts size in
    let more = changes-more (take gate bytes) (change_bytes change) changes change (λ rest. front-spelled change rest fits) are in
    record {
      inside = omega (arith, ap length parts, length-append front (0 ∷ tail), size);
      shut = λ is. absurd (omega (arith, last, is));
      front = subst (λ (l : List ℕ). AreChanges l (changes ++ change ∷ [])) (sym taken) more;
    }

-- each outcome of the write that opens the gate stands for the changes with the new one or without
pub torn_gate : (gate : ℕ) (changes : List Change) (change : Change) (old new : List ℕ) → length change.bytes < 2 ^ 64
    → IsStaged gate changes change old → Torn gate 1 old new → IsBeforeOrAfter changes change new
torn_gate gate changes change old new fits stage torn =
    let inside : gate < length new = omega (arith, stage.ends.inside, torn.no_shorter) in
    let are : AreChanges (take gate new) changes = subst (λ (l : List ℕ). AreChanges l changes) (sym torn.before) stage.ends.front in
    ⊎_elim
    (λ is_open. inr (ended _ _ new (opened gate changes change new stage.tail fits inside are is_open (torn.behind ∙ stage.behind))))
    (λ shut. inl (ended gate changes new (record { inside = inside; shut = shut; front = are })))
    (cases_eq (get_or new gate 0) 1)

-- once it is done, the journal ends behind the change
pub gate_opened : (gate : ℕ) (changes : List Change) (change : Change) (old : List ℕ) → length change.bytes < 2 ^ 64
    → IsStaged gate changes change old
    → IsShutAt (gate + 10 + length change.bytes) (changes ++ change ∷ []) (overwritten gate (1 ∷ []) old)
gate_opened gate changes change old fits stage =
    let new : List ℕ = overwritten gate (1 ∷ []) old in
    let front : List ℕ = take gate old in
    let rest : List ℕ = drop (gate + 1) old in
    let size : length front ≡ gate = length-take-le gate old (omega (arith, stage.ends.inside)) in
    let parts : new ≡ front ++ 1 ∷ rest = append_assoc front (1 ∷ []) rest in
    let inside : gate < length new = omega (arith, ap length parts, length-append front (1 ∷ rest), size) in
    let same = front_taken front (1 ∷ rest) new gate parts size in
    let are : AreChanges (take gate new) changes = subst (λ (l : List ℕ). AreChanges l changes) (sym same) stage.ends.front in
    let is_open : get_or new gate 0 ≡ 1 = ap (λ (l : List ℕ). get_or l gate 0) parts ∙ get_or_at front 1 rest 0 gate size in
    let behind : drop (gate + 1) new ≡ rest =
    drop_at (front ++ 1 ∷ []) rest (gate + 1) (omega (arith, length-append front (1 ∷ []), size)) in
    opened gate changes change new stage.tail fits inside are is_open (behind ∙ stage.behind)
