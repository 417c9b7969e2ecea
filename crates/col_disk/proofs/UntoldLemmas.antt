-- What is left of a disk that tells nothing.
use Rattle.std.proofs.Common.{◌≤◌, ◌<◌, ◌^◌, ℕ, ◌+◌, List, length, Ok, Err, OnOk, IsOkUnless, refl}
use Rattle.col_common.specs.Causes.{HasCause}
use Rattle.col_common.specs.declared.outside.HandleError.TheVariants.{Failed, Memory}
use Rattle.col_disk.specs.Crash.{Tears, anything}
use Rattle.col_disk.specs.Disks.{Answer, WriteLeaves, WritesAt, untold_disk}
use Rattle.col_disk.proofs.Moments.{adds_nothing, none_time}
use Rattle.col_disk.proofs.TornLemmas.{untorn}

-- a disk that may leave anything may leave what was torn
anything_torn : (at n : ℕ) → Tears at n anything anything
anything_torn at n = record { time = none_time (adds_nothing anything); from = λ c left. (c, left, untorn at n c) }

-- what a write leaves of it
untold_leaves : (r : Answer) (at old new was now : ℕ) (bytes : List ℕ) → IsOkUnless r Failed
    → OnOk r (at + length bytes ≤ new) → OnOk r (at + length bytes < 2 ^ 64)
    → WriteLeaves (untold_disk old was) (untold_disk new now) at bytes r
untold_leaves (Ok done) at old new was now bytes failed reaches fits =
    record { told = refl; images = anything_torn at (length bytes); reaches = reaches; fits = fits }
untold_leaves (Err Failed) at old new was now bytes failed reaches fits = record { told = refl; images = anything_torn at (length bytes) }
untold_leaves (Err Memory) at old new was now bytes failed reaches fits = absurd (cc failed)

-- so it meets what a disk's write promises
pub untold_writes : (r : Answer) (at old new was now : ℕ) (bytes : List ℕ) → old ≤ new → IsOkUnless r Failed
    → OnOk r (at + length bytes ≤ new) → OnOk r (at + length bytes < 2 ^ 64) → HasCause was now r
    → WritesAt (untold_disk old was) (untold_disk new now) at bytes r
untold_writes r at old new was now bytes grows failed reaches fits cause =
    record { leaves = untold_leaves r at old new was now bytes failed reaches fits; grows = grows; cause = cause }
