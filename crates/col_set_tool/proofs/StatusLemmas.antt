-- What a disk and a script tell.
use Rattle.std.proofs.Common.{◌≡◌, ◌∙◌, ℕ, List, [], Option, Some, None, Ok, Err, IfSome, refl, sym, ap, subst, arith}
use Rattle.col_common.specs.Outside.{SeenSink, Grows, Told}
use Rattle.col_common.proofs.SerializingLemmas.{appends_none}
use Rattle.col_disk.specs.Disks.{SeenDisk, Stays}
use Rattle.col_disk.proofs.Moments.{adds_nothing}
use Rattle.col_segments.specs.Segments.{HeldTable}
use Rattle.col_set.specs.Held.{held_by}
use Rattle.col_set_script.specs.SetScripts.{SetStep}
use Rattle.col_set_tool.specs.Runs.{IfBothTold, IsAfterSome}
use Rattle.col_set_tool.specs.SetOutcome.{outcome_held, outcome_read, readable, set_outcome, steps_in, steps_or_none}

-- where the first is told and the second is told
pub both-told : (disk script : Told) (P : List ℕ → List ℕ → Type 0)
    → ((bytes text : List ℕ) → disk ≡ Some bytes → script ≡ Some text → P bytes text) → IfBothTold disk script P
both-told None script P h = tt
both-told (Some bytes) None P h = tt
both-told (Some bytes) (Some text) P h = h bytes text refl refl

-- what is so of a told list
pub told-at : (P : List ℕ → Type 0) (told : Told) (bytes : List ℕ) → told ≡ Some bytes → IfSome told P → P bytes
told-at P told bytes is h = subst (λ (o : Told). IfSome o P) is h

-- the rows before the first step
pub at-first : (hs : List HeldTable) (xs : List SetStep) (c : List ℕ) → held_by c ≡ Some hs → IsAfterSome hs xs c
at-first hs xs c is = record { steps = 0; within = omega arith; after = hs; is = refl; held = hs; bytes = is; same = refl }

pub same-some : (a b : List HeldTable) → ◌≡◌ {A = Option (List HeldTable)} (Some a) (Some b) → a ≡ b
same-some a b e = cc

-- a disk that no call was made on
pub stays-none : (disk : SeenDisk) → Stays disk disk
stays-none disk = record { told = refl; size = refl; images = adds_nothing disk.images }

pub grown-none : (a : SeenSink) → Grows a a
grown-none a = ([], appends_none a)

-- ---- what the script says, where it is read

-- its steps are those of the text
pub steps-are : (text own : List ℕ) (xs : List SetStep) → text ≡ own → readable own ≡ Ok xs → steps_in text ≡ xs
steps-are text own xs same is = ap (λ t. steps_or_none (readable t)) same ∙ ap steps_or_none is

pub outcome-as : (bytes text own : List ℕ) (xs : List SetStep) → text ≡ own → readable own ≡ Ok xs
    → set_outcome bytes text ≡ outcome_held (held_by bytes) xs
unfolding set_outcome
outcome-as bytes text own xs same is = ap (λ t. outcome_read bytes (readable t)) same ∙ ap (outcome_read bytes) is

-- what is so of one list, is so of what is told
pub if-told : (told : Told) (P : List ℕ → Type 0) → ((text : List ℕ) → told ≡ Some text → P text) → IfSome told P
if-told None P h = tt
if-told (Some text) P h = h text refl

-- a script with steps has no status by itself
pub no-status-of : (text own : List ℕ) (xs : List SetStep) (status : ℕ) → text ≡ own → readable own ≡ Ok xs → readable text ≡ Err status → ⊥
no-status-of text own xs status same is bad =
    let both : Ok xs ≡ Err status = sym is ∙ sym (ap readable same) ∙ bad in cc
