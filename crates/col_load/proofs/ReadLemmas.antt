-- Lines of a source that is read by blocks.
use Rattle.std.proofs.Common.{◌≡◌, ◌+◌, ◌-◌, ◌*◌, ◌<◌, ◌≤◌, ◌^◌, ℕ, List, [], ◌∷◌, ◌++◌, length, Some, None, IfSome, Result, Ok, Err, refl, sym, ap, ◌∙◌, subst, inl, inr, arith, append-nil}
use Rattle.std.specs.List.{join_with_byte}
use Rattle.std.specs.declared.alloc.Global.{Global}
use Rattle.std.specs.declared.vec.Vec.{Vec}
use Rattle.std.proofs.lemmas.List.{length-append}
use Rattle.std.proofs.lemmas.List.Splits.{join_with_byte-slice_split}
use Rattle.col_common.specs.Causes.{Rose}
use Rattle.col_common.specs.Outside.{Told, Takes, IsAtEnd}
use Rattle.col_common.proofs.TellingLemmas.{takes_none, takes_more}
use Rattle.col_load.specs.Loads.{lines_of, documents_from}
use Rattle.col_load.specs.Loading.{HasTaken, TakesLine, LinesTaken, IsStop, StopsIn, RefusesRead, ReadsLines, TakesSource, forms_of}
use Rattle.col_load.specs.declared.load_error.LoadError.{LoadError}
use Rattle.col_load.specs.declared.load_error.LoadError.TheVariants.{OutOfMemory}
use Rattle.col_load.specs.declared.loader.Loader.{Loader}
use Rattle.col_load.proofs.BlockLemmas.{none_taken, one_line, stops_memory, stops_more, taken_more}

-- a count that rose later
rose_later : (a b c : ℕ) → a ≤ b → Rose b c → Rose a c
rose_later a b c le rose = omega (arith, le, rose)

-- The lines of what was read so far were taken, and the bytes of a line that is begun are held.
pub record AreRead (left left' : Told) (before now : ℕ) (start cur : Loader) (held : List ℕ) : Type 0 where
  pub bytes : List ℕ
  pub takes : Takes left left' bytes
  pub taken : LinesTaken bytes held start cur
  pub later : before ≤ now
  pub fits : cur.counts.0 < 2 ^ 64

-- what is left to do: it falls with each line, and with each byte that is held
abbrev pub work_left : Loader → List ℕ → ℕ
work_left loader held = (2 ^ 64 - loader.counts.0) * 2 ^ 64 + (2 ^ 64 - length held)

same-bytes : (a b : List ℕ) → lines_of a ≡ lines_of b → a ≡ b
same-bytes a b is = sym (join_with_byte-slice_split 10 a) ∙ ap (join_with_byte 10) is ∙ join_with_byte-slice_split 10 b

-- a block that isn't empty leaves less to do
pub less_left : (held block held' : List ℕ) (old new : Loader) → LinesTaken (held ++ block) held' old new → 0 < length block
    → old.counts.0 < 2 ^ 64 → length held < 2 ^ 64 → work_left new held' < work_left old held
less_left held block held' old new f some fits short = by f.lines (f.cut []) (f.more fits).0
  where
    by : (lines : List (List ℕ)) → lines_of ((held ++ block) ++ []) ≡ lines ++ lines_of (held' ++ [])
        → new.counts.0 ≡ old.counts.0 + length lines → work_left new held' < work_left old held
    by [] cut count =
        let same : held ++ block ≡ held' =
        sym (append-nil (held ++ block)) ∙ same-bytes ((held ++ block) ++ []) (held' ++ []) cut ∙ append-nil held' in
        let longer : length held + length block ≡ length held' = sym (length-append held block) ∙ ap length same in
        omega (arith, count, longer, some, short)
    by (line ∷ lines) cut count = omega (arith, count, fits, short)

module _ (left mid : Told) (before now : ℕ) (start cur : Loader) (held : List ℕ) (had : AreRead left mid before now start cur held)
    (left' : Told) (now' : ℕ) (later : now ≤ now') where
  -- a block more
  pub block_more : (block held' : List ℕ) (next : Loader) → Takes mid left' block → LinesTaken (held ++ block) held' cur next
      → AreRead left left' before now' start next held'
  block_more block held' next takes t = record {
    bytes = had.bytes ++ block;
    takes = takes_more left mid left' had.bytes block had.takes takes;
    taken = taken_more had.bytes block held start cur had.taken held' next t;
    later = omega (arith, had.later, later);
    fits = (t.more had.fits).1;
  }

  -- the end of the source
  pub block_last : (last : Vec ℕ Global) → held ≡ last.items → Takes mid left' [] → IsAtEnd left'
      → ReadsLines left left' before now' start cur (Ok last)
  block_last last is takes ended = record {
    bytes = had.bytes;
    takes = subst (Takes left left') (append-nil had.bytes) (takes_more left mid left' had.bytes [] had.takes takes);
    ended = ended;
    taken = subst (λ bs. LinesTaken had.bytes bs start cur) is had.taken;
    stopped = tt;
    later = omega (arith, had.later, later);
  }

  -- a read that was refused
  pub read_refused : (e : LoadError) → RefusesRead mid left' now now' e → ReadsLines left left' before now' start cur (Err e)
  read_refused e r = record {
    bytes = had.bytes ++ r.bytes;
    takes = takes_more left mid left' had.bytes r.bytes had.takes r.takes;
    ended = tt;
    taken = tt;
    stopped = elim r.cause [
      | inl out ↦ inr (subst (StopsIn (had.bytes ++ r.bytes) start) (sym out) (stops_memory (had.bytes ++ r.bytes) start))
      | inr failed ↦ inl (failed.0, rose_later before now now' had.later failed.1)
    ];
    later = omega (arith, had.later, later);
  }

  -- a stop in the lines of a block
  pub block_ends : (block : List ℕ) (next : Loader) (e : LoadError) → Takes mid left' block → StopsIn (held ++ block) cur e
      → ReadsLines left left' before now' start next (Err e)
  block_ends block next e takes s = record {
    bytes = had.bytes ++ block;
    takes = takes_more left mid left' had.bytes block had.takes takes;
    ended = tt;
    taken = tt;
    stopped = inr (stops_more had.bytes block held start cur had.taken e s);
    later = omega (arith, had.later, later);
  }

-- before any read
pub none_read : (left : Told) (faults : ℕ) (loader : Loader) → HasTaken [] loader → AreRead left left faults faults loader loader []
none_read left faults loader none = record {
  bytes = [];
  takes = takes_none left;
  taken = none_taken loader;
  later = omega arith;
  fits = omega (arith, ap (λ p. p.0) none.counts);
}

-- what is left, where it is told
left-told : (left : Told) → (rest : List ℕ) × IfSome left (λ more. more ≡ rest)
left-told None = ([], tt)
left-told (Some more) = (more, refl)

-- no byte is left, where it is told
none-left : (left : Told) → IsAtEnd left → IfSome left (λ more. more ≡ [])
none-left None ended = tt
none-left (Some more) ended = ended

module _ (left left' : Told) (before now : ℕ) (start mid : Loader) (none : HasTaken [] start) where
  -- a stop before the last line
  pub reading_stops : (next : Loader) (e : LoadError) → ReadsLines left left' before now start mid (Err e)
      → TakesSource left left' before now start next (Err e)
  reading_stops next e r =
      let told = left-told left' in
      record {
        bytes = r.bytes;
        takes = r.takes;
        ended = tt;
        taken = tt;
        forms = tt;
        stopped = elim r.stopped [
          | inl failed ↦ inl failed
          | inr stops ↦ inr (record { rest = told.0; told = told.1; stop = stops [] told.0 none })
        ];
        later = r.later;
      }

  module _ (last : Vec ℕ Global) (r : ReadsLines left left' before now start mid (Ok last)) (next : Loader) where
    all-lines : lines_of r.bytes ≡ r.taken.lines ++ last.items ∷ []
    all-lines =
        ap lines_of (sym (append-nil r.bytes)) ∙ r.taken.cut []
        ∙ ap (λ bs. r.taken.lines ++ lines_of bs) (append-nil last.items)
        ∙ ap (λ ls. r.taken.lines ++ ls) (one_line last.items r.taken.begun)

    -- the last line
    pub last_taken : TakesLine last.items mid next (Ok tt) → TakesSource left left' before now start next (Ok tt)
    last_taken t = record {
      bytes = r.bytes;
      takes = r.takes;
      ended = r.ended;
      taken = subst (λ ls. HasTaken ls next) (sym all-lines) (t.taken r.taken.lines (r.taken.taken [] none));
      forms = (t.forms.0 ∙ r.taken.forms.0, t.forms.1 ∙ r.taken.forms.1);
      stopped = tt;
      later = r.later;
    }

    -- the last line has a stop
    pub last_stops : (e : LoadError) → TakesLine last.items mid next (Err e) → TakesSource left left' before now start next (Err e)
    last_stops e t =
        let same : r.taken.lines ++ last.items ∷ [] ≡ lines_of (r.bytes ++ []) = sym all-lines ∙ ap lines_of (sym (append-nil r.bytes)) in
        let stop = subst (λ ls. IsStop e (documents_from (forms_of start) start.skips 1 ls)) same
        (subst (λ fs. IsStop e (documents_from fs start.skips 1 (r.taken.lines ++ last.items ∷ []))) r.taken.forms.0
        (subst (λ k. IsStop e (documents_from (forms_of mid) k 1 (r.taken.lines ++ last.items ∷ []))) r.taken.forms.1
        (t.stopped r.taken.lines [] (r.taken.taken [] none)))) in
        record {
          bytes = r.bytes;
          takes = r.takes;
          ended = tt;
          taken = tt;
          forms = tt;
          stopped = inr (record { rest = []; told = none-left left' r.ended; stop = stop });
          later = r.later;
        }

    -- the last line, whatever comes of it
    pub last_line : (result : Result (Unit {0}) LoadError) → TakesLine last.items mid next result
        → TakesSource left left' before now start next result
    last_line (Ok done) t = last_taken t
    last_line (Err e) t = last_stops e t

-- no memory to read by
pub nothing_read : (left : Told) (faults : ℕ) (loader : Loader) → TakesSource left left faults faults loader loader (Err OutOfMemory)
nothing_read left faults loader =
    let told = left-told left in
    record {
      bytes = [];
      takes = takes_none left;
      ended = tt;
      taken = tt;
      forms = tt;
      stopped = inr (record { rest = told.0; told = told.1; stop = tt });
      later = omega arith;
    }
