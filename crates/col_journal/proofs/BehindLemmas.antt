-- The writes behind a gate: the head of a change, its bytes, and a closed gate.
use Rattle.std.proofs.Common.{◌≡◌, ℕ, ◌+◌, ◌<◌, List, [], ◌∷◌, ◌++◌, length, Ok, Err, subst, arith, length-append}
use Rattle.std.specs.Int.{w64, to_le_bytes}
use Rattle.col_common.specs.declared.outside.HandleError.{HandleError}
use Rattle.col_disk.specs.Disks.{Answer, IsDisk, WritesParts, SeenDisk, WritesAt}
use Rattle.col_disk.proofs.PutLemmas.{cut_off, one_write, then_write}
use Rattle.col_journal.specs.Journal.{Change}
use Rattle.col_journal.specs.Settled.{behind_gate}

-- the kind and the length of a change
abbrev head_bytes : Change → List ℕ
head_bytes change = change.kind ∷ to_le_bytes w64 (length change.bytes)

module _ (gate : ℕ) (change : Change) (head : List ℕ) (is : head ≡ head_bytes change) (old : SeenDisk) (disk : IsDisk old)
    (within : gate < old.size) where
  -- the head
  one : {mid : SeenDisk} {r : Answer} → WritesAt old mid (gate + 1) head r → WritesParts old mid (gate + 1) (head_bytes change) r
  one {mid} {r} write = subst (λ h. WritesParts old mid (gate + 1) h r) is (one_write (gate + 1) head r disk write)

  -- the head was refused
  pub stopped_head : {mid : SeenDisk} (e : HandleError) → WritesAt old mid (gate + 1) head (Err e)
      → WritesParts old mid (gate + 1) (behind_gate change) (Err e)
  stopped_head e write = cut_off (gate + 1) (head_bytes change) (change.bytes ++ 0 ∷ []) e (one write)

  -- the head and the bytes
  two : {mid new : SeenDisk} {r : Answer} → IsDisk mid → WritesAt old mid (gate + 1) head (Ok tt)
      → WritesAt mid new (gate + 10) change.bytes r
      → WritesParts old new (gate + 1) (head_bytes change ++ change.bytes) r
  two {mid} {new} {r} between first write =
      then_write (gate + 1) (head_bytes change) change.bytes (gate + 10) r disk between (omega (arith, within)) (omega arith)
      (one first) write

  -- the bytes were
  pub stopped_bytes : {mid new : SeenDisk} (e : HandleError) → IsDisk mid → WritesAt old mid (gate + 1) head (Ok tt)
      → WritesAt mid new (gate + 10) change.bytes (Err e) → WritesParts old new (gate + 1) (behind_gate change) (Err e)
  stopped_bytes e between first write = cut_off (gate + 1) (head_bytes change ++ change.bytes) (0 ∷ []) e (two between first write)

  -- the closed gate, whatever it answers
  pub put_behind : {mid late new : SeenDisk} (r : Answer) → IsDisk mid → IsDisk late → WritesAt old mid (gate + 1) head (Ok tt)
      → WritesAt mid late (gate + 10) change.bytes (Ok tt) → WritesAt late new (gate + 10 + length change.bytes) (0 ∷ []) r
      → WritesParts old new (gate + 1) (behind_gate change) r
  put_behind r between last first second third =
      then_write (gate + 1) (head_bytes change ++ change.bytes) (0 ∷ []) (gate + 10 + length change.bytes) r disk last
      (omega (arith, within))
      (omega (arith, length-append (head_bytes change) change.bytes)) (two between first second) third
