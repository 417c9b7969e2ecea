-- What adding a change leaves of a disk that stands for tables.
use Rattle.std.proofs.Common.{◌≡◌, ◌⊎◌, inl, inr, ℕ, true, false, List, [], ◌∷◌, ◌++◌, Some, None, Ok, Err, IfSome, refl, ap}
use Rattle.col_common.specs.Outside.{Told}
use Rattle.col_common.specs.declared.error.ColumnarError.TheVariants.{OutOfMemory, WriteFault}
use Rattle.col_common.specs.declared.outside.HandleError.TheVariants.{Failed, Memory}
use Rattle.col_disk.specs.Crash.{LeavesOnly}
use Rattle.col_disk.specs.Disks.{Answer, IsLater, SeenDisk, TellsAlike}
use Rattle.col_disk.proofs.Moments.{leaves_weaker}
use Rattle.col_journal.specs.Journal.{Change, IsBeforeOrAfter}
use Rattle.col_journal.specs.Settled.{AddsChange, IsSettled}
use Rattle.col_segments.specs.Segments.{HeldTable, changed}
use Rattle.col_set.specs.Held.{Stands, held_by, made_by, step}
use Rattle.col_set.specs.Sets.{LeavesChange}
use Rattle.col_set.proofs.HeldLemmas.{held-is, one-more}

-- what follows of told bytes, whatever they are
pub if_told : {P Q : List ℕ → Type 0} (told : Told) → ((bytes : List ℕ) → P bytes → Q bytes) → IfSome told P → IfSome told Q
if_told None f h = tt
if_told (Some bytes) f h = f bytes h

-- what is so of a disk that tells, is so where it goes on telling
pub retold : (P : Type 0) (old new : Told) → TellsAlike old new → IfSome old (λ _. P) → IfSome new (λ _. P)
retold P None None same h = tt
retold P None (Some bytes) same h = absurd (cc same)
retold P (Some bytes) None same h = tt
retold P (Some bytes) (Some more) same h = h

-- A call that adds a change to a journal whose disk stands for tables.
module _ (old new : SeenDisk) (gate end_ : ℕ) (hs after : List HeldTable) (change : Change) (r : Answer)
    (adds : (changes : List Change) → IsSettled old gate changes → AddsChange old new end_ changes change r) (later : IsLater old new r)
    (stands : IfSome old.told (λ _. Stands old gate hs)) (makes : changed change.kind change.bytes hs ≡ Ok after) where
  made : step change hs ≡ Some after
  made = ap made_by makes

  -- the disk goes on telling, and stands for these tables
  on_new : (k : List HeldTable) → ((s : Stands old gate hs) → Stands new end_ k) → IfSome new.told (λ _. Stands new end_ k)
  on_new k settled = retold (Stands new end_ k) old.told new.told later.tells (if_told old.told (λ _ s. settled s) stands)

  -- the bytes stand for the tables from before or for those that the change makes
  either : (s : Stands old gate hs) (c : List ℕ) → IsBeforeOrAfter s.changes change c → (held_by c ≡ Some hs) ⊎ (held_by c ≡ Some after)
  either s c (inl was) = inl (held-is c s.changes hs was s.made)
  either s c (inr is) = inr (held-is c (s.changes ++ change ∷ []) after is (one-more [] hs after s.changes change s.made made))

  moments : IfSome old.told (λ _. LeavesOnly old.images new.images (λ c. (held_by c ≡ Some hs) ⊎ (held_by c ≡ Some after)))
  moments =
      if_told old.told (λ _ s.
      leaves_weaker (IsBeforeOrAfter s.changes change) (λ c. (held_by c ≡ Some hs) ⊎ (held_by c ≡ Some after))
      (adds s.changes s.settled).any_moment (either s)) stands

  -- Ok
  pub change-done : r ≡ Ok tt → LeavesChange old new end_ hs after false (Ok tt)
  change-done is = record {
    done = on_new after (λ s. record {
      changes = s.changes ++ change ∷ [];
      settled = rw is at (adds s.changes s.settled).ok;
      made = one-more [] hs after s.changes change s.made made;
    });
    stopped = λ _. tt;
    known = tt;
    fault = λ e. absurd (cc e);
    failed = (λ e. absurd (cc e), λ e. absurd (cc e));
    any_moment = moments;
    tells = later.tells;
    later = later.cause.later;
  }

  -- a fault of the disk
  pub change-failed : r ≡ Err Failed → LeavesChange old new end_ hs after true (Err WriteFault)
  change-failed is = record {
    done = tt;
    stopped = λ e. absurd (cc e);
    known = inl refl;
    fault = λ _. later.cause.failed is;
    failed = (λ _. refl, λ _. refl);
    any_moment = moments;
    tells = later.tells;
    later = later.cause.later;
  }

  -- want of memory
  pub change-wanting : r ≡ Err Memory → LeavesChange old new end_ hs after false (Err OutOfMemory)
  change-wanting is = record {
    done = tt;
    stopped = λ _. on_new hs (λ s. record {
      changes = s.changes;
      settled = (adds s.changes s.settled).memory is;
      made = s.made;
    });
    known = inr refl;
    fault = λ e. absurd (cc e);
    failed = (λ e. absurd (cc e), λ e. absurd (cc e));
    any_moment = moments;
    tells = later.tells;
    later = later.cause.later;
  }
