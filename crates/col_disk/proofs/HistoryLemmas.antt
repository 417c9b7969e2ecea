-- What a disk in memory tells.
use Rattle.std.proofs.Common.{◌≡◌, inl, inr, ⊎_elim, ℕ, ◌+◌, ◌<◌, ◌≤◌, ◌^◌, max, Bool, true, false, List, [], ◌∷◌, ◌++◌, length, Some, Ok, Err, OnOk, IsOkUnless, refl, sym, ◌∙◌, ap, subst, arith, length-append}
use Rattle.std.proofs.lemmas.Bool.{cases_lt}
use Rattle.std.proofs.lemmas.List.{take_all, take-append-le}
use Rattle.col_common.specs.Causes.{HasCause}
use Rattle.col_common.specs.declared.outside.HandleError.TheVariants.{Failed, Memory}
use Rattle.col_disk.specs.declared.history.Entry.{Entry}
use Rattle.col_disk.specs.declared.history.Entry.TheVariants.{Wrote, Synced}
use Rattle.col_disk.specs.declared.history.Write.{Write}
use Rattle.col_disk.specs.Crash.{Elapses, AddsNone, Tears, Torn, Only, overwritten}
use Rattle.col_disk.specs.Disks.{Answer, Syncs, WriteLeaves, WritesAt}
use Rattle.col_disk.specs.History.{State, all_synced, state_after, state_after_all, state_of, IsLeftIn, IsClean, IsHistory, IsMadeWrite, images_after, told_by_history}
use Rattle.col_disk.proofs.ImageLemmas.{image_before, image_written, clean_only, image_synced}
use Rattle.col_disk.proofs.Moments.{adds_nothing}
use Rattle.col_disk.proofs.TornLemmas.{length-overwritten, torn_part}

-- the state after some entries and one more
after-more : (s : State) (entries : List Entry) (entry : Entry)
    → state_after_all s (entries ++ entry ∷ []) ≡ state_after (state_after_all s entries) entry
unfolding state_after_all
after-more s [] entry = refl
after-more s (first ∷ entries) entry = after-more (state_after s first) entries entry

-- the state after one entry more
state-more : (first : List ℕ) (entries : List Entry) (entry : Entry)
    → state_of first (entries ++ entry ∷ []) ≡ state_after (state_of first entries) entry
state-more first entries entry = after-more (all_synced first) entries entry

module _ (first : List ℕ) (entries : List Entry) where
  -- a crash may leave it in the state after the entries
  abbrev LeftAfter : List ℕ → List Entry → Type 0
  LeftAfter c es = IsLeftIn (state_of first es) c

  -- one entry more is one moment more
  elapses_one : (entry : Entry) → Elapses (images_after first entries) (images_after first (entries ++ entry ∷ []))
  elapses_one entry =
      let more : List Entry = entries ++ entry ∷ [] in
      let size : length more ≡ length entries + 1 = length-append entries (entry ∷ []) in
      record {
        later = omega (arith, size);
        nothing_else = λ t c le left. ⊎_elim
            (λ now. inr (subst (LeftAfter c) (take_all left.0 more (omega (arith, size, now))) left.3))
            (λ past. inl (left.0, left.1, past, subst (LeftAfter c) (take-append-le left.0 entries (entry ∷ []) past) left.3))
            (cases_lt (length entries) left.0);
        keeps = λ t c le left.
            let same = sym (take-append-le left.0 entries (entry ∷ []) left.2) in
            (left.0, left.1, omega (arith, left.2, size), subst (LeftAfter c) same left.3);
      }

-- what is kept of a disk that nothing was written to
pub kept_first : (first bytes : List ℕ) (entries : List Entry) → first ≡ bytes → entries ≡ [] → IsHistory first entries bytes false
unfolding state_after_all
kept_first first bytes entries same none =
    let clean : IsClean (all_synced first) = record { ranges = refl; base = refl } in
    let kept : IsHistory first [] first false = record { replayed = refl; image = image_synced first; clean = λ idle. clean } in
    subst (λ es. IsHistory first es bytes false) (sym none) (subst (λ b. IsHistory first [] b false) same kept)

module _ {first bytes : List ℕ} {entries : List Entry} {pending : Bool} (kept : IsHistory first entries bytes pending) where
  -- the state that the entries lead to
  abbrev s : State
  s = state_of first entries

  -- what a read gives is an image
  image : IsLeftIn s s.bytes
  image = subst (IsLeftIn s) (sym kept.replayed) kept.image

  -- a write of its bytes or of a part of them
  module _ {at : ℕ} {asked old new : List ℕ} {w : Write} {room : List Entry} (later : List Entry) (old_is : old ≡ bytes)
      (was_made : IsMadeWrite at asked old w new) (le : at ≤ length bytes) (roomy : room ≡ entries)
      (wrote : later ≡ room ++ Wrote w ∷ []) where
    -- what was made, of the bytes of the disk
    made : IsMadeWrite at asked bytes w new
    made = subst (λ l. IsMadeWrite at asked l w new) old_is was_made

    -- the entries then
    more : later ≡ entries ++ Wrote w ∷ []
    more = wrote ∙ ap (λ (es : List Entry). es ++ Wrote w ∷ []) roomy

    -- the place lies within
    there : w.pos ≤ length bytes
    there = omega (arith, made.pos, le)

    inside : w.pos ≤ length s.bytes
    inside = omega (arith, there, ap length kept.replayed)

    -- what is kept of it
    pub kept_written : IsHistory first later new true
    kept_written =
        let state : state_of first later ≡ state_after s (Wrote w) = ap (state_of first) more ∙ state-more first entries (Wrote w) in
        let new_is : (state_after s (Wrote w)).bytes ≡ new = ap (overwritten w.pos w.bytes.items) kept.replayed ∙ sym made.new_is in
        let left : IsLeftIn (state_after s (Wrote w)) new =
        subst (IsLeftIn (state_after s (Wrote w))) new_is (image_written s w.pos w.size w.bytes.items inside made.fits image) in
        record {
          replayed = ap (λ (u : State). u.bytes) state ∙ new_is;
          image = subst (λ u. IsLeftIn u new) (sym state) left;
          clean = λ p. absurd (cc p);
        }

    -- an image then is one from before, torn
    write_tears : Tears at (length asked) (images_after first entries) (images_after first later)
    write_tears =
        let tears : Tears w.pos w.size (images_after first entries) (images_after first (entries ++ Wrote w ∷ [])) = record {
          time = elapses_one first entries (Wrote w);
          from = λ c left. image_before s (state_of first (entries ++ Wrote w ∷ [])) w.pos w.size w.bytes.items c inside made.fits
              image.no_shorter (state-more first entries (Wrote w)) left;
        } in
        let after : Tears w.pos w.size (images_after first entries) (images_after first later) =
        subst (λ es. Tears w.pos w.size (images_after first entries) (images_after first es)) (sym more) tears in
        subst (λ n. Tears at n (images_after first entries) (images_after first later)) made.size
        (subst (λ p. Tears p w.size (images_after first entries) (images_after first later)) made.pos after)

    -- the bytes then
    long : length new ≡ max (length bytes) (at + length w.bytes.items)
    long = omega (arith, ap length made.new_is, length-overwritten w.pos w.bytes.items bytes there, made.pos)

    new_at : new ≡ overwritten at w.bytes.items bytes
    new_at = made.new_is ∙ ap (λ p. overwritten p w.bytes.items bytes) made.pos

    -- what a write leaves of what is told: its bytes, or a part of them after a fault
    write_leaves : (r : Answer) (fails : Bool) (faults now : ℕ) → IsOkUnless r Failed → OnOk r (fails ≡ false)
        → (fails ≡ false → w.bytes.items ≡ asked) → length new < 2 ^ 64
        → WriteLeaves (told_by_history first entries bytes faults) (told_by_history first later new now) at asked r
    write_leaves (Ok done) fails faults now failed done_is whole small =
        let same = whole done_is in
        record {
          told = ap Some (new_at ∙ ap (λ put. overwritten at put bytes) same);
          images = write_tears;
          reaches = omega (arith, long, ap length same);
          fits = omega (arith, long, ap length same, small);
        }
    write_leaves (Err Failed) fails faults now failed done_is whole small =
        let torn = torn_part at (length asked) w.bytes.items bytes le (omega (arith, made.fits, made.size)) in
        record { told = (new, refl, subst (Torn at (length asked) bytes) (sym new_at) torn); images = write_tears }
    write_leaves (Err Memory) fails faults now failed done_is whole small = absurd (cc failed)

    -- so it meets what a disk's write promises
    pub writes : (r : Answer) (fails : Bool) (faults now : ℕ) → IsOkUnless r Failed → OnOk r (fails ≡ false)
        → (fails ≡ false → w.bytes.items ≡ asked) → length new < 2 ^ 64
        → HasCause faults now r → WritesAt (told_by_history first entries bytes faults) (told_by_history first later new now) at asked r
    writes r fails faults now failed done_is whole small cause = record {
      leaves = write_leaves r fails faults now failed done_is whole small;
      grows = omega (arith, long);
      cause = cause;
    }

  -- a sync that finds a write pending
  module _ (later : List Entry) (more : later ≡ entries ++ Synced ∷ []) where
    -- all is on the disk then
    state : state_of first later ≡ all_synced s.bytes
    state = ap (state_of first) more ∙ state-more first entries Synced

    -- what is kept of it
    pub kept_synced : IsHistory first later bytes false
    kept_synced = record {
      replayed = ap (λ (u : State). u.bytes) state ∙ kept.replayed;
      image = subst (λ u. IsLeftIn u bytes) (sym state) (subst (IsLeftIn (all_synced s.bytes)) kept.replayed (image_synced s.bytes));
      clean = λ p. subst IsClean (sym state) (record { ranges = refl; base = refl });
    }

    -- a crash leaves what is read, which it could leave before
    sync_only : Only bytes (images_after first later)
    sync_only c left =
        let clean : IsClean (all_synced s.bytes) = record { ranges = refl; base = refl } in
        clean_only (all_synced s.bytes) c clean (subst (λ u. IsLeftIn u c) state left) ∙ kept.replayed

    sync_adds : AddsNone (images_after first entries) (images_after first later)
    sync_adds =
        let time : Elapses (images_after first entries) (images_after first later) =
        subst (λ es. Elapses (images_after first entries) (images_after first es)) (sym more) (elapses_one first entries Synced) in
        let fewer : (c : List ℕ) → IsLeftIn (state_of first later) c → IsLeftIn s c =
        λ c left. subst (IsLeftIn s) (sym (sync_only c left)) kept.image in
        record {
          later = time.later;
          nothing_new = λ t c le left. ⊎_elim (λ was. was) (λ now. (
            length entries,
            le,
            omega arith,
            subst (LeftAfter first entries c) (sym (take_all (length entries) entries (omega arith))) (fewer c now),
          ))
              (time.nothing_else t c le left);
          keeps = time.keeps;
          fewer = fewer;
        }

    -- so it meets what a disk's sync promises
    pub sync_pending : (faults now : ℕ) → HasCause {T = Unit {0}} faults now (Ok tt)
        → Syncs (told_by_history first entries bytes faults) (told_by_history first later bytes now) (Ok tt)
    sync_pending faults now cause = record {
      durable = sync_only;
      stays = record { told = refl; size = refl; images = sync_adds };
      failed = tt;
      cause = cause;
    }

  -- one that finds none
  idle_only : pending ≡ false → Only bytes (images_after first entries)
  idle_only idle c left = clean_only s c (kept.clean idle) left ∙ kept.replayed

  -- which meets it too
  pub sync_idle : pending ≡ false → (faults now : ℕ) → HasCause {T = Unit {0}} faults now (Ok tt)
      → Syncs (told_by_history first entries bytes faults) (told_by_history first entries bytes now) (Ok tt)
  sync_idle idle faults now cause = record {
    durable = idle_only idle;
    stays = record { told = refl; size = refl; images = adds_nothing (images_after first entries) };
    failed = tt;
    cause = cause;
  }
