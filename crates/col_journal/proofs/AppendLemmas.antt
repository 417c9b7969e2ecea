-- The writes that add a change.
use Rattle.std.proofs.Common.{◌≡◌, inl, ℕ, ◌+◌, ◌<◌, ◌^◌, List, [], ◌∷◌, ◌++◌, length, Option, Some, is_some, None, IfSome, Ok, Err, sym, ◌∙◌, ap, subst, arith, length-append}
use Rattle.col_common.specs.Outside.{Told}
use Rattle.col_common.specs.declared.outside.HandleError.{HandleError}
use Rattle.col_common.specs.declared.outside.HandleError.TheVariants.{Memory}
use Rattle.col_disk.specs.Crash.{Torn, LeavesOnly, MayBeTorn, overwritten}
use Rattle.col_disk.specs.Disks.{Answer, IsDisk, IsDurable, WritesParts, SeenDisk, Stays, Syncs, TellsAlike}
use Rattle.col_disk.proofs.Moments.{joins, leaves_weaker}
use Rattle.col_disk.proofs.PutLemmas.{put_durable, then_sync}
use Rattle.col_journal.specs.Journal.{Change, IsBeforeOrAfter}
use Rattle.col_journal.specs.Settled.{AddsChange, IsSettled, IsShutAt, IsStaged, behind_gate}
use Rattle.col_journal.proofs.SettledLemmas.{ended, gate_opened, staged, torn_behind, torn_gate}

-- what holds of what is told
pub told_is : {content : Told} {bytes : List ℕ} (P : List ℕ → Type 0) → content ≡ Some bytes → IfSome content P → P bytes
told_is P is h = subst (λ (o : Option (List ℕ)). IfSome o P) is h

-- what a disk tells that tells as one did before
still_told : (now old : Told) (bytes : List ℕ) → TellsAlike old now → old ≡ Some bytes → (held : List ℕ) × (now ≡ Some held)
still_told None old bytes alike is = absurd (cc (alike ∙ ap is_some is))
still_told (Some held) old bytes alike is = (held, λ i. Some held)

-- a call's refusal
abbrev refused : HandleError → Answer
refused e = Err e

module _ (gate : ℕ) (changes : List Change) (change : Change) {old : SeenDisk} (disk : IsDisk old)
    (settled : IsSettled old gate changes) where
  -- what a crash may leave
  abbrev P : List ℕ → Type 0
  P = IsBeforeOrAfter changes change

  -- the change is written behind the gate
  abbrev Stages : SeenDisk → Answer → Type 0
  Stages mid r = WritesParts old mid (gate + 1) (behind_gate change) r

  -- each outcome of the writes behind the gate ends there
  still_shut : (c : List ℕ) → MayBeTorn old.images (gate + 1) (length (behind_gate change)) c → IsShutAt gate changes c
  still_shut c torn = torn_behind gate (length (behind_gate change)) changes torn.0 c (settled.each torn.0 torn.1) torn.2

  -- so a crash there leaves the changes
  staging : {mid : SeenDisk} {r : Answer} → Stages mid r → LeavesOnly old.images mid.images P
  staging {mid} {r} puts =
      leaves_weaker (MayBeTorn old.images (gate + 1) (length (behind_gate change))) P puts.any_moment
      (λ c torn. inl (ended gate changes c (still_shut c torn)))

  -- writes behind the gate leave the changes, whatever they answer
  still_settled : {mid : SeenDisk} {r : Answer} → IsDisk mid → Stages mid r → IsSettled mid gate changes
  still_settled {mid} {r} now puts =
      let told = still_told mid.told old.told settled.bytes puts.later.tells settled.told in
      record {
        bytes = told.0;
        told = told.1;
        each = λ c left. still_shut c (puts.any_moment.each c (now.counts_now old.images.clock c puts.any_moment.later left));
      }

  -- they were refused
  pub stopped_behind : {mid : SeenDisk} (e : HandleError) → IsDisk mid → Stages mid (Err e) → AddsChange old mid gate changes change (Err e)
  stopped_behind {mid} e now puts = record { ok = tt; any_moment = staging puts; memory = λ _. still_settled now puts }

  -- and so was the sync
  pub stopped_sync : {mid new : SeenDisk} (e : HandleError) → IsDisk mid → IsDisk new → Stages mid (Ok tt) → Syncs mid new (Err e)
      → AddsChange old new gate changes change (Err e)
  stopped_sync e between now puts syncs = stopped_behind e now (then_sync (gate + 1) (behind_gate change) (Err e) puts syncs between)

  -- what stands on the disk behind the sync
  record StagedOn (mid : SeenDisk) : Type 0 where
    pub bytes : List ℕ
    pub durable : IsDurable mid bytes
    pub stage : IsStaged gate changes change bytes

  -- there the change stands behind the gate
  staged_on : {mid new : SeenDisk} → Stages mid (Ok tt) → Syncs mid new (Ok tt) → StagedOn new
  staged_on {mid} {new} puts syncs =
      let held = settled.bytes in
      let piece : List ℕ = behind_gate change in
      record {
        bytes = overwritten (gate + 1) piece held;
        durable = told_is (λ b. IsDurable new (overwritten (gate + 1) piece b)) settled.told
            (put_durable (gate + 1) piece (Ok tt) puts syncs);
        stage = staged gate changes change held (settled.each held (told_is old.images.may_leave settled.told disk.read_is_left));
      }

  -- the write that opens the gate
  module _ {mid synced : SeenDisk} (between : IsDisk mid) (puts : Stages mid (Ok tt)) (syncs : Syncs mid synced (Ok tt)) where
    -- the change is one that can be spelled
    fits : length change.bytes < 2 ^ 64
    fits = omega (arith, puts.fits, length-append change.bytes (0 ∷ []))

    -- it stands on the disk
    on_disk : StagedOn synced
    on_disk = staged_on puts syncs

    -- so a crash leaves the changes with it or without
    opening : {new : SeenDisk} {r : Answer} → WritesParts synced new gate (1 ∷ []) r → LeavesOnly old.images new.images P
    opening {new} {r} opens =
        let Q = MayBeTorn synced.images gate 1 in
        joins P Q (staging (then_sync (gate + 1) (behind_gate change) (Ok tt) puts syncs between)) opens.any_moment (λ c torn.
        let was : Torn gate 1 on_disk.bytes c = subst (λ (d : List ℕ). Torn gate 1 d c) (on_disk.durable.only torn.0 torn.1) torn.2 in
        torn_gate gate changes change on_disk.bytes c fits on_disk.stage was)

    -- it was refused
    pub stopped_gate : {new : SeenDisk} (e : HandleError) → WritesParts synced new gate (1 ∷ []) (Err e)
        → (refused e ≡ Err Memory → Stays synced new) → AddsChange old new gate changes change (Err e)
    stopped_gate {new} e opens memory = record {
      ok = tt;
      any_moment = opening opens;
      memory = λ is.
          let stays = memory is in
          record {
            bytes = on_disk.bytes;
            told = stays.told ∙ on_disk.durable.told;
            each = λ c left. subst (IsShutAt gate changes) (sym (on_disk.durable.only c (stays.images.fewer c left))) on_disk.stage.ends;
          };
    }

    -- it is on the disk
    pub gate_is_open : {new : SeenDisk} (next : ℕ) → next ≡ gate + 10 + length change.bytes → WritesParts synced new gate (1 ∷ []) (Ok tt)
        → IfSome synced.told (λ held. IsDurable new (overwritten gate (1 ∷ []) held)) → AddsChange old new next changes change (Ok tt)
    gate_is_open {new} next is opens durable =
        let after : List ℕ = overwritten gate (1 ∷ []) on_disk.bytes in
        let last = told_is (λ b. IsDurable new (overwritten gate (1 ∷ []) b)) on_disk.durable.told durable in
        let ends : IsShutAt next (changes ++ change ∷ []) after =
        subst (λ at. IsShutAt at (changes ++ change ∷ []) after) (sym is)
        (gate_opened gate changes change on_disk.bytes fits on_disk.stage) in
        record {
          ok = record {
            bytes = after;
            told = last.told;
            each = λ c left. subst (IsShutAt next (changes ++ change ∷ [])) (sym (last.only c left)) ends;
          };
          any_moment = opening opens;
          memory = λ e. absurd (cc e);
        }
