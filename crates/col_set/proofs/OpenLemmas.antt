-- Disks that are opened.
use Rattle.std.proofs.Common.{◌≡◌, ◌⊎◌, inl, inr, ⊎_elim, ℕ, ◌≤◌, List, [], Some, None, option_and_then, IfSome, sym, ap, subst, arith}
use Rattle.col_common.specs.Causes.{Rose}
use Rattle.col_common.specs.Outside.{Told}
use Rattle.col_common.specs.declared.error.ColumnarError.{ColumnarError}
use Rattle.col_common.specs.declared.error.ColumnarError.TheVariants.{ReadFault}
use Rattle.col_disk.specs.Crash.{AddsNone, Images, LeavesOnly}
use Rattle.col_disk.specs.Disks.{SeenDisk}
use Rattle.col_disk.proofs.Moments.{goes_on, leaves_weaker, none_time}
use Rattle.col_journal.specs.Found.{IsReadRefusal}
use Rattle.col_journal.specs.Journal.{HaveNoChange, replayed}
use Rattle.col_segments.specs.Segments.{HeldTable}
use Rattle.col_set.specs.Held.{Stands, held_by, step}
use Rattle.col_set.specs.Sets.{EachStands, IsHeldAlike, RefusesOpen}
use Rattle.col_set.proofs.HeldLemmas.{each-stands}
use Rattle.col_set.proofs.LeaveLemmas.{if_told}

-- ---- moments

-- what stands for no change stands for no table, as the disk's bytes do
alike : (bytes c : List ℕ) → HaveNoChange bytes c → IsHeldAlike bytes c
unfolding replayed
alike bytes c none =
    ([], ap (λ o. option_and_then (replayed step []) o) none.0, ap (λ o. option_and_then (replayed step []) o) none.1)

-- the disk is ready
pub opened-moments : (old new : Images) (told : Told)
    → IfSome told (λ bytes. LeavesOnly old new (λ c. old.may_leave c ⊎ HaveNoChange bytes c))
    → IfSome told (λ bytes. LeavesOnly old new (λ c. old.may_leave c ⊎ IsHeldAlike bytes c))
opened-moments old new told run =
    if_told told (λ bytes r.
    leaves_weaker (λ c. old.may_leave c ⊎ HaveNoChange bytes c) (λ c. old.may_leave c ⊎ IsHeldAlike bytes c) r
    (λ c which. ⊎_elim (λ was. inl was) (λ none. inr (alike bytes c none)) which)) run

-- and then it is read
pub loaded-moments : (old mid new : Images) (told : Told)
    → IfSome told (λ bytes. LeavesOnly old mid (λ c. old.may_leave c ⊎ HaveNoChange bytes c))
    → ((t : ℕ) (c : List ℕ) → t ≤ mid.clock → mid.may_leave c → mid.left_since t c) → AddsNone mid new
    → IfSome told (λ bytes. LeavesOnly old new (λ c. old.may_leave c ⊎ IsHeldAlike bytes c))
loaded-moments old mid new None run counts none = tt
loaded-moments old mid new (Some bytes) run counts none =
    opened-moments old new (Some bytes) (goes_on (λ c. old.may_leave c ⊎ HaveNoChange bytes c) run (none_time none)
    (λ c left. run.each c (counts old.clock c run.later (none.fewer c left))))

-- ---- refusals

-- a refusal of a reading is one of the opening
pub read-refuses : (a b c : ℕ) (e : ColumnarError) → a ≤ b → IsReadRefusal e → (e ≡ ReadFault → Rose b c)
    → RefusesOpen (Unit {0}) (Rose a c) e
read-refuses a b c e le (inl is) rose = subst (RefusesOpen (Unit {0}) (Rose a c)) (sym is) tt
read-refuses a b c e le (inr (inl is)) rose =
    subst (RefusesOpen (Unit {0}) (Rose a c)) (sym is) (let rose = rose is in omega (arith, le, rose))
read-refuses a b c e le (inr (inr is)) rose = subst (RefusesOpen (Unit {0}) (Rose a c)) (sym is) tt

-- ---- a set that was opened

-- its images stand for what the disk's bytes did
pub set-opened : (old : Told) (disk : SeenDisk) (gate : ℕ) (hs : List HeldTable)
    → IfSome old (λ bytes. (held_by bytes ≡ Some hs) × Stands disk gate hs)
    → IfSome old (λ bytes. (held_by bytes ≡ Some hs) × EachStands disk.images hs)
set-opened old disk gate hs h = if_told old (λ bytes p. (p.0, each-stands disk gate hs p.1)) h
