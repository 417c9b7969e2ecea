-- What holds of each disk of this crate.
use Rattle.std.proofs.Common.{ℕ, Bool, List, length, refl, sym, subst, arith}
use Rattle.std.proofs.lemmas.List.{take_all}
use Rattle.col_disk.specs.declared.history.Entry.{Entry}
use Rattle.col_disk.specs.Disks.{IsDisk, untold_disk}
use Rattle.col_disk.specs.History.{IsHistory, IsLeftIn, state_of, told_by_history}

-- a disk that tells nothing
pub untold_is_disk : (size faults : ℕ) → IsDisk (untold_disk size faults)
untold_is_disk size faults = record {
  told_whole = tt;
  read_is_left = tt;
  counts_now = λ t c le left. tt;
  only_now = λ c left. tt;
}

-- a disk in memory: its moments are its entries, of which the last is now
pub history_is_disk : {first bytes : List ℕ} {entries : List Entry} {pending : Bool} (faults : ℕ)
    → IsHistory first entries bytes pending → IsDisk (told_by_history first entries bytes faults)
history_is_disk {first} {bytes} {entries} faults history =
    let P : List ℕ → List Entry → Type 0 = λ c es. IsLeftIn (state_of first es) c in
    record {
      told_whole = refl;
      read_is_left = history.image;
      counts_now = λ t c le left. (
        length entries,
        le,
        omega arith,
        subst (P c) (sym (take_all (length entries) entries (omega arith))) left,
      );
      only_now = λ c left. subst (P c) (take_all left.0 entries (omega (arith, left.1))) left.3;
    }
