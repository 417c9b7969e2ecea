-- Several writes, a part behind another, are one that may be torn.
use Rattle.std.proofs.Common.{◌≡◌, ◌≤◌, ◌∙◌, ap, ℕ, ◌+◌, List, ◌++◌, length, Some, None, option_map, is_some, IfSome, Ok, Err, OnOk, refl, sym, subst, arith, length-append}
use Rattle.col_common.specs.Outside.{Told}
use Rattle.col_common.specs.declared.outside.HandleError.{HandleError}
use Rattle.col_common.specs.declared.outside.HandleError.TheVariants.{Failed, Memory}
use Rattle.col_disk.specs.Crash.{Elapses, LeavesOnly, MayBeTorn, Only, Torn, overwritten}
use Rattle.col_disk.specs.Disks.{Answer, SeenDisk, IsDisk, IsDurable, IsLater, WritesParts, Syncs, TellsAlike, TornAsTold, WriteLeaves, WritesAt}
use Rattle.col_disk.proofs.Moments.{goes_on, joins, leaves_weaker, none_time, started}
use Rattle.col_disk.proofs.TornLemmas.{overwritten-twice, torn_twice, torn_wider, untorn}

-- over a write time goes on
write_time : (r : Answer) (old new : SeenDisk) (at : ℕ) (bytes : List ℕ) → WriteLeaves old new at bytes r → Elapses old.images new.images
write_time (Ok done) old new at bytes w = w.images.time
write_time (Err Failed) old new at bytes w = w.images.time
write_time (Err Memory) old new at bytes w = none_time w.images

-- it leaves what was there, torn
write_from : (r : Answer) (old new : SeenDisk) (at : ℕ) (bytes : List ℕ) → WriteLeaves old new at bytes r
    → (c : List ℕ) → new.images.may_leave c → MayBeTorn old.images at (length bytes) c
write_from (Ok done) old new at bytes w c left = w.images.from c left
write_from (Err Failed) old new at bytes w c left = w.images.from c left
write_from (Err Memory) old new at bytes w c left = (c, w.images.fewer c left, untorn at (length bytes) c)

-- whether there are bytes stays, whatever is made of them
map_tells : (f : List ℕ → List ℕ) (o : Told) → is_some (option_map f o) ≡ is_some o
map_tells f None = refl
map_tells f (Some bytes) = refl

-- so it does where they were torn
torn_tells : (at n : ℕ) (old new : Told) → TornAsTold at n old new → TellsAlike old new
torn_tells at n None new torn = ap is_some torn
torn_tells at n (Some old) new torn = ap is_some torn.1

-- whether the disk tells stays
write_tells : (r : Answer) (old new : SeenDisk) (at : ℕ) (bytes : List ℕ) → WriteLeaves old new at bytes r
    → TellsAlike old.told new.told
write_tells (Ok done) old new at bytes w = ap is_some w.told ∙ map_tells (overwritten at bytes) old.told
write_tells (Err Failed) old new at bytes w = torn_tells at (length bytes) old.told new.told w.told
write_tells (Err Memory) old new at bytes w = ap is_some w.told

-- a crash during or after a write leaves what was there, torn
write_moments : {old new : SeenDisk} (at : ℕ) (bytes : List ℕ) (r : Answer) → IsDisk old → WritesAt old new at bytes r
    → LeavesOnly old.images new.images (MayBeTorn old.images at (length bytes))
write_moments {old} {new} at bytes r disk w =
    let P = MayBeTorn old.images at (length bytes) in
    goes_on P (started old.images P disk.only_now (λ c left. (c, left, untorn at (length bytes) c)))
    (write_time r old new at bytes w.leaves) (write_from r old new at bytes w.leaves)

-- what holds behind a write, whatever it answers
write_later : {old new : SeenDisk} (at : ℕ) (bytes : List ℕ) (r : Answer) → WritesAt old new at bytes r → IsLater old new r
write_later {old} {new} at bytes r w = record {
  tells = write_tells r old new at bytes w.leaves;
  grows = w.grows;
  cause = w.cause;
}

-- one write
pub one_write : {old new : SeenDisk} (at : ℕ) (bytes : List ℕ) (r : Answer) → IsDisk old → WritesAt old new at bytes r
    → WritesParts old new at bytes r
one_write at bytes (Ok done) disk w = record {
  told = w.leaves.told;
  any_moment = write_moments at bytes (Ok done) disk w;
  reaches = w.leaves.reaches;
  fits = w.leaves.fits;
  later = write_later at bytes (Ok done) w;
}
one_write at bytes (Err e) disk w = record {
  told = tt;
  any_moment = write_moments at bytes (Err e) disk w;
  reaches = tt;
  fits = tt;
  later = write_later at bytes (Err e) w;
}

-- a write that failed ends a run of more
pub cut_off : {old new : SeenDisk} (at : ℕ) (a b : List ℕ) (e : HandleError) → WritesParts old new at a (Err e)
    → WritesParts old new at (a ++ b) (Err e)
cut_off {old} {new} at a b e puts =
    let P = MayBeTorn old.images at (length a) in
    let Q = MayBeTorn old.images at (length (a ++ b)) in
    record {
      told = tt;
      any_moment = leaves_weaker P Q puts.any_moment (λ c torn. (torn.0, torn.1, torn_wider at a b torn.0 c torn.2));
      reaches = tt;
      fits = tt;
      later = puts.later;
    }

-- what is told after two parts
told_twice : (at : ℕ) (a b : List ℕ) (old mid new : Told) → IfSome old (λ bytes. at ≤ length bytes)
    → mid ≡ option_map (overwritten at a) old → new ≡ option_map (overwritten (at + length a) b) mid
    → new ≡ option_map (overwritten at (a ++ b)) old
told_twice at a b None mid new le first second = second ∙ ap (option_map (overwritten (at + length a) b)) first
told_twice at a b (Some old) mid new le first second =
    second ∙ ap (option_map (overwritten (at + length a) b)) first ∙ ap Some (overwritten-twice at a b old le)

-- what is told is as long as the disk
told_reaches : (told : Told) (size at : ℕ) → IfSome told (λ bytes. length bytes ≡ size) → at ≤ size
    → IfSome told (λ bytes. at ≤ length bytes)
told_reaches None size at whole le = tt
told_reaches (Some bytes) size at whole le = omega (arith, whole, le)

-- a crash during or after two parts leaves what was there, torn
both_moments : (old mid new : SeenDisk) (at : ℕ) (a b : List ℕ) → IsDisk mid
    → LeavesOnly old.images mid.images (MayBeTorn old.images at (length a))
    → LeavesOnly mid.images new.images (MayBeTorn mid.images (at + length a) (length b))
    → LeavesOnly old.images new.images (MayBeTorn old.images at (length (a ++ b)))
both_moments old mid new at a b disk first second =
    let P = MayBeTorn old.images at (length a) in
    let Q = MayBeTorn mid.images (at + length a) (length b) in
    let R = MayBeTorn old.images at (length (a ++ b)) in
    let wider : (c : List ℕ) → P c → R c = λ c torn. (torn.0, torn.1, torn_wider at a b torn.0 c torn.2) in
    joins R Q (leaves_weaker P R first wider) second (λ c torn.
    let was : P torn.0 = first.each torn.0 (disk.counts_now old.images.clock torn.0 first.later torn.1) in
    let twice = torn_twice at (length a) (length b) was.0 torn.0 c was.2 torn.2 in
    (was.0, was.1, subst (λ n. Torn at n was.0 c) (sym (length-append a b)) twice))

-- and behind two calls
both_later : {old mid new : SeenDisk} (r : Answer) → IsLater old mid (Ok tt) → IsLater mid new r → IsLater old new r
both_later {old} {mid} {new} r first second = record {
  tells = second.tells ∙ first.tells;
  grows = omega (arith, first.grows, second.grows);
  cause = record {
    later = omega (arith, first.cause.later, second.cause.later);
    failed = λ e. omega (arith, first.cause.later, second.cause.failed e);
  };
}

-- a part behind the others
pub then_write : {old mid new : SeenDisk} (at : ℕ) (a b : List ℕ) (place : ℕ) (r : Answer) → IsDisk old → IsDisk mid → at ≤ old.size
    → place ≡ at + length a → WritesParts old mid at a (Ok tt) → WritesAt mid new place b r → WritesParts old new at (a ++ b) r
then_write {old} {mid} {new} at a b place r disk_old disk_mid le is first write =
    go r (subst (λ p. WritesAt mid new p b r) is write)
  where
    moments : (r : Answer) → WritesAt mid new (at + length a) b r
        → LeavesOnly old.images new.images (MayBeTorn old.images at (length (a ++ b)))
    moments r w = both_moments old mid new at a b disk_mid first.any_moment (write_moments (at + length a) b r disk_mid w)

    reaches : IfSome old.told (λ bytes. at ≤ length bytes)
    reaches = told_reaches old.told old.size at disk_old.told_whole le

    go : (r : Answer) → WritesAt mid new (at + length a) b r → WritesParts old new at (a ++ b) r
    go (Ok done) w = record {
      told = told_twice at a b old.told mid.told new.told reaches first.told w.leaves.told;
      any_moment = moments (Ok done) w;
      reaches = omega (arith, length-append a b, w.leaves.reaches);
      fits = omega (arith, length-append a b, w.leaves.fits);
      later = both_later (Ok done) first.later (write_later (at + length a) b (Ok done) w);
    }
    go (Err e) w = record {
      told = tt;
      any_moment = moments (Err e) w;
      reaches = tt;
      fits = tt;
      later = both_later (Err e) first.later (write_later (at + length a) b (Err e) w);
    }

-- a sync that is Ok makes durable what is told
told_durable : (mid new : SeenDisk) (at : ℕ) (bytes : List ℕ) (old : Told) → mid.told ≡ option_map (overwritten at bytes) old
    → IfSome mid.told (λ held. Only held new.images) → new.told ≡ mid.told
    → IfSome old (λ held. IsDurable new (overwritten at bytes held))
told_durable mid new at bytes None is only same = tt
told_durable mid new at bytes (Some held) is only same = record {
  told = same ∙ is;
  only = subst (λ (o : Told). IfSome o (λ held. Only held new.images)) is only;
}

-- what was put, and then synced
pub put_durable : {old mid new : SeenDisk} (at : ℕ) (bytes : List ℕ) (r : Answer) → WritesParts old mid at bytes (Ok tt) → Syncs mid new r
    → OnOk r (IfSome old.told (λ held. IsDurable new (overwritten at bytes held)))
put_durable {old} {mid} {new} at bytes (Ok done) puts syncs =
    told_durable mid new at bytes old.told puts.told syncs.durable syncs.stays.told
put_durable at bytes (Err e) puts syncs = tt

-- a sync, whatever it answers, leaves what was put
pub then_sync : {old mid new : SeenDisk} (at : ℕ) (bytes : List ℕ) (r : Answer) → WritesParts old mid at bytes (Ok tt) → Syncs mid new r
    → IsDisk mid → WritesParts old new at bytes r
then_sync {old} {mid} {new} at bytes r puts syncs disk =
    let P = MayBeTorn old.images at (length bytes) in
    let stays = syncs.stays in
    let moments : LeavesOnly old.images new.images P = goes_on P puts.any_moment (none_time stays.images) (λ c left.
    puts.any_moment.each c (disk.counts_now old.images.clock c puts.any_moment.later (stays.images.fewer c left))) in
    let more : IsLater mid new r = record { tells = ap is_some stays.told; grows = omega (arith, stays.size); cause = syncs.cause } in
    go r moments (both_later r puts.later more)
  where
    go : (r : Answer) → LeavesOnly old.images new.images (MayBeTorn old.images at (length bytes)) → IsLater old new r
        → WritesParts old new at bytes r
    go (Ok done) moments on = record {
      told = syncs.stays.told ∙ puts.told;
      any_moment = moments;
      reaches = omega (arith, puts.reaches, syncs.stays.size);
      fits = puts.fits;
      later = on;
    }
    go (Err e) moments on = record { told = tt; any_moment = moments; reaches = tt; fits = tt; later = on }
