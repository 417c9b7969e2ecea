-- What a run tells whose steps were taken, up to some one.
use Rattle.std.proofs.Common.{◌≡◌, ◌≤◌, ◌⊎◌, ◌∙◌, inl, inr, ℕ, List, None, Some, Result, Ok, IfSome, sym, ap, subst, arith}
use Rattle.col_common.specs.Outside.{SeenSink, Told}
use Rattle.col_common.specs.declared.error.ColumnarError.{ColumnarError}
use Rattle.col_disk.specs.Crash.{LeavesOnly, Only}
use Rattle.col_disk.specs.Disks.{SeenDisk}
use Rattle.col_disk.proofs.Moments.{joins, leaves_weaker}
use Rattle.col_model.specs.Refusal.{◌>>=◌}
use Rattle.col_program.specs.Outcome.{Outcome}
use Rattle.col_segments.specs.Live.{merged_alive}
use Rattle.col_segments.specs.Segments.{HeldTable}
use Rattle.col_segments.proofs.LiveLemmas.{compacted-live}
use Rattle.col_set.specs.Held.{held_by}
use Rattle.col_set.specs.Sets.{SeenSet, EachStands, IsHeldAlike, OpensSet}
use Rattle.col_set.proofs.LeaveLemmas.{retold}
use Rattle.col_set_run.specs.Outcome.{reached}
use Rattle.col_set_script.specs.SetScripts.{SetStep}
use Rattle.col_set_tool.specs.Runs.{IfBothTold, IsAfterSome, IsMadeOne, RunsWhole}
use Rattle.col_set_tool.specs.SetOutcome.{outcome_held, outcome_on, readable, set_outcome, steps_in}
use Rattle.col_set_tool.specs.SetRuns.{HoldsFinal}
use Rattle.col_set_tool.proofs.StatusLemmas.{both-told, told-at, at-first, same-some, steps-are, outcome-as}

-- a disk that was opened, a script that was read, and a run of its steps
pub record IsRun {D : Type 0} (see : D → SeenDisk) (disk : D) (left : Told) (own : List ℕ) (xs : List SetStep)
    (set new : SeenSet D) (output output' report report' : SeenSink) (r : Result (Unit {0}) ColumnarError) : Type 0 where
  pub told : IfSome left (λ bytes. bytes ≡ own)
  pub is : readable own ≡ Ok xs
  pub opens : OpensSet see disk (Ok set)
  pub ran : RunsWhole see set new output output' report report' xs r

module _ {D : Type 0} {see : D → SeenDisk} {disk : D} {left : Told} {own : List ℕ} {xs : List SetStep} {set new : SeenSet D}
    {output output' report report' : SeenSink} {r : Result (Unit {0}) ColumnarError}
    (run : IsRun see disk left own xs set new output output' report report' r) where
  pub text-is : (text : List ℕ) → left ≡ Some text → text ≡ own
  text-is text given = told-at _ left text given run.told

  -- what the disk held is what the set holds
  pub held-is : (bytes : List ℕ) (hs : List HeldTable) → (see disk).told ≡ Some bytes → held_by bytes ≡ Some hs → hs ≡ set.held
  held-is bytes hs b held = same-some hs set.held (sym held ∙ (told-at _ (see disk).told bytes b run.opens.ok.1).0)

  pub outcome-then : (bytes text : List ℕ) → (see disk).told ≡ Some bytes → left ≡ Some text → set_outcome bytes text ≡ outcome_on set.held xs
  outcome-then bytes text b t =
      outcome-as bytes text own xs (text-is text t) run.is
      ∙ ap (λ o. outcome_held o xs) (told-at _ (see disk).told bytes b run.opens.ok.1).0

  pub steps-then : (text : List ℕ) → left ≡ Some text → steps_in text ≡ xs
  steps-then text t = steps-are text own xs (text-is text t) run.is

  -- what the open set's disk tells
  pub since : (P : Type 0) (bytes : List ℕ) → (see disk).told ≡ Some bytes → IfSome (see set.disk).told (λ _. P) → P
  since P bytes b h = told-at _ (see disk).told bytes b (retold P (see set.disk).told (see disk).told (sym run.opens.tells) h)

  pub moments-then : (bytes text : List ℕ) → (see disk).told ≡ Some bytes → left ≡ Some text → (hs : List HeldTable)
      → held_by bytes ≡ Some hs → Only bytes (see disk).images
      → LeavesOnly (see disk).images (see new.disk).images (IsAfterSome hs (steps_in text))
  moments-then bytes text b t hs held only =
      rw (held-is bytes hs b held, steps-then text t)
      (joins (IsAfterSome set.held xs) (IsAfterSome set.held xs)
      (leaves_weaker (λ c. (see disk).images.may_leave c ⊎ IsHeldAlike bytes c) (IsAfterSome set.held xs)
      (told-at _ (see disk).told bytes b run.opens.any_moment) by)
      (since (LeavesOnly (see set.disk).images (see new.disk).images (IsAfterSome set.held xs)) bytes b run.ran.any_moment)
      (λ c h. h))
    where
      own-held : held_by bytes ≡ Some set.held
      own-held = (told-at _ (see disk).told bytes b run.opens.ok.1).0

      by : (c : List ℕ) → (see disk).images.may_leave c ⊎ IsHeldAlike bytes c → IsAfterSome set.held xs c
      by c (inl may) = at-first set.held xs c (ap held_by (only c may) ∙ own-held)
      by c (inr (ks, old, now)) = at-first set.held xs c (now ∙ sym old ∙ own-held)

  pub starts : (bytes text : List ℕ) → (see disk).told ≡ Some bytes → left ≡ Some text
      → LeavesOnly (see disk).images (see new.disk).images
      (λ c. (see disk).images.may_leave c ⊎ ((hs : List HeldTable) × (held_by bytes ≡ Some hs) × IsAfterSome hs (steps_in text) c))
  starts bytes text b t =
      rw (steps-then text t) (joins (λ c. (see disk).images.may_leave c ⊎ Later c) (IsAfterSome set.held xs)
      (leaves_weaker (λ c. (see disk).images.may_leave c ⊎ IsHeldAlike bytes c) (λ c. (see disk).images.may_leave c ⊎ Later c)
      (told-at _ (see disk).told bytes b run.opens.any_moment) by)
      (since (LeavesOnly (see set.disk).images (see new.disk).images (IsAfterSome set.held xs)) bytes b run.ran.any_moment)
      (λ c h. inr (set.held, own-held, h)))
    where
      Later : List ℕ → Type 0
      Later c = (hs : List HeldTable) × (held_by bytes ≡ Some hs) × IsAfterSome hs xs c

      own-held : held_by bytes ≡ Some set.held
      own-held = (told-at _ (see disk).told bytes b run.opens.ok.1).0

      by : (c : List ℕ) → (see disk).images.may_leave c ⊎ IsHeldAlike bytes c → (see disk).images.may_leave c ⊎ Later c
      by c (inl may) = inl may
      by c (inr (ks, old, now)) = inr (ks, old, at-first ks xs c now)

  -- a disk that holds a set isn't one that holds none
  pub holds-set : (bytes : List ℕ) → (see disk).told ≡ Some bytes → held_by bytes ≡ None → ⊥
  holds-set bytes b none = let both : Some set.held ≡ None = sym (told-at _ (see disk).told bytes b run.opens.ok.1).0 ∙ none in cc both

  -- the disk of a set that works and is made one table
  pub holds-final : IsMadeOne set.held new.held new.failed xs → (bytes text : List ℕ) → (see disk).told ≡ Some bytes
      → left ≡ Some text → HoldsFinal (see new.disk).images bytes text
  holds-final (works, one) bytes text b t hs ks table held is made =
      let now = since (EachStands (see new.disk).images new.held) bytes b (run.ran.now works) in
      let same = ap (λ hs. reached hs xs) (sym (held-is bytes hs b held)) ∙ ap (reached hs) (sym (steps-then text t)) ∙ is in
      let final = ap (λ r. r >>= merged_alive) same ∙ made in
      (subst (EachStands (see new.disk).images) (one table final) now, compacted-live ks table made)

  -- what holds of the outcome, as of what both tell
  pub IfDone : (P : Outcome → Type 0) → P (outcome_on set.held xs)
      → IfBothTold (see disk).told left (λ bytes text. P (set_outcome bytes text))
  IfDone P h = both-told (see disk).told left (λ bytes text. P (set_outcome bytes text))
      (λ bytes text b t. subst P (sym (outcome-then bytes text b t)) h)

  pub later-then : (see disk).faults ≤ (see new.disk).faults
  later-then = omega (arith, run.opens.later, run.ran.later.0)
