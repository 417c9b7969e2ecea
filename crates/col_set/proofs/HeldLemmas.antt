-- The tables that a journal's changes make.
use Rattle.std.proofs.Common.{◌≡◌, ℕ, ◌<◌, ◌≤◌, List, [], ◌∷◌, ◌++◌, Option, Some, None, option_map, IfSome, drop, append_assoc, take-append-drop, refl, sym, ◌∙◌, ap, subst, arith}
use Rattle.col_common.specs.Reading.{◌>>=◌}
use Rattle.col_disk.specs.Disks.{SeenDisk, Stays}
use Rattle.col_disk.proofs.Moments.{adds_nothing, stays_both}
use Rattle.col_journal.specs.Found.{FindsChange, change_of}
use Rattle.col_journal.specs.Journal.{Change, changes_from, changes_of, replayed}
use Rattle.col_journal.specs.Settled.{IsReadTo}
use Rattle.col_journal.specs.declared.found.Found.{Found}
use Rattle.col_journal.proofs.SettledLemmas.{ended}
use Rattle.col_segments.specs.Segments.{HeldTable}
use Rattle.col_set.specs.Held.{Stands, held_by, step}

-- changes in two parts
replayed-append : (s : List HeldTable) (xs ys : List Change)
    → replayed step s (xs ++ ys) ≡ (replayed step s xs >>= λ t. replayed step t ys)
unfolding replayed
replayed-append s [] ys = refl
replayed-append s (x ∷ xs) ys = go (step x s) (λ t. replayed-append t xs ys)
  where
    go : (o : Option (List HeldTable))
        → ((t : List HeldTable) → replayed step t (xs ++ ys) ≡ (replayed step t xs >>= λ u. replayed step u ys))
        → (o >>= λ t. replayed step t (xs ++ ys)) ≡ ((o >>= λ t. replayed step t xs) >>= λ u. replayed step u ys)
    go None same = refl
    go (Some t) same = same t

-- no change yet
replayed-none : (s : List HeldTable) → replayed step s [] ≡ Some s
unfolding replayed
replayed-none s = refl

-- one change more
pub one-more : (s t u : List HeldTable) (xs : List Change) (x : Change) → replayed step s xs ≡ Some t → step x t ≡ Some u
    → replayed step s (xs ++ x ∷ []) ≡ Some u
unfolding replayed
one-more s t u xs x before made =
    replayed-append s xs (x ∷ []) ∙ ap (λ o. o >>= λ v. replayed step v (x ∷ [])) before
    ∙ ap (λ o. o >>= λ v. replayed step v []) made

-- where a change is refused, no more changes help
one-refused : (s t : List HeldTable) (xs ys : List Change) (x : Change) → replayed step s xs ≡ Some t → step x t ≡ None
    → replayed step s (xs ++ x ∷ ys) ≡ None
unfolding replayed
one-refused s t xs ys x before refused =
    replayed-append s xs (x ∷ ys) ∙ ap (λ o. o >>= λ v. replayed step v (x ∷ ys)) before
    ∙ ap (λ o. o >>= λ v. replayed step v ys) refused

-- bytes that stand for these changes stand for what these make
pub held-is : (bytes : List ℕ) (changes : List Change) (hs : List HeldTable) → changes_of bytes ≡ Some changes
    → replayed step [] changes ≡ Some hs → held_by bytes ≡ Some hs
held-is bytes changes hs is made = ap (λ o. o >>= replayed step []) is ∙ made

-- each image of the disk stands for the tables
pub each-stands : (disk : SeenDisk) (gate : ℕ) (hs : List HeldTable) → Stands disk gate hs → (c : List ℕ) → disk.images.may_leave c
    → held_by c ≡ Some hs
each-stands disk gate hs stands c left =
    held-is c stands.changes hs (ended gate stands.changes c (stands.settled.each c left)) stands.made

-- ---- a journal that is read

-- where a change that was read is refused, the changes stand for nothing
pub read-refused : (disk : SeenDisk) (gate : ℕ) (all : Option (List Change)) (first before : List HeldTable)
    (changes : List Change) (change : Change) → IsReadTo disk gate (changes ++ change ∷ []) all → replayed step first changes ≡ Some before
    → step change before ≡ None → IfSome all (λ cs. replayed step first cs ≡ None)
read-refused disk gate all first before changes change read made refused =
    by (changes_from (drop gate read.bytes)) all
    (sym read.whole ∙ ap changes_from (sym (take-append-drop gate read.bytes)) ∙ read.front (drop gate read.bytes))
  where
    by : (o all : Option (List Change)) → all ≡ option_map (λ more. changes ++ change ∷ [] ++ more) o
        → IfSome all (λ cs. replayed step first cs ≡ None)
    by None all is = subst (λ a. IfSome a (λ cs. replayed step first cs ≡ None)) (sym is) tt
    by (Some more) all is =
        subst (λ a. IfSome a (λ cs. replayed step first cs ≡ None)) (sym is)
        (ap (replayed step first) (append_assoc changes (change ∷ []) more) ∙ one-refused first before changes more change made refused)

-- A journal was read up to a gate, from its first one on, and its changes were made of these tables.
pub record Replays (start now : SeenDisk) (gate : ℕ) (first hs : List HeldTable) : Type 0 where
  pub read : (all : Option (List Change)) → IsReadTo start 0 [] all
      → (changes : List Change) × IsReadTo now gate changes all × (replayed step first changes ≡ Some hs)
  pub stays : Stays start now
  pub within : gate < now.size
  pub later : start.faults ≤ now.faults

-- nothing was read yet
pub replays-none : (disk : SeenDisk) (hs : List HeldTable) → 0 < disk.size → Replays disk disk 0 hs hs
replays-none disk hs some = record {
  read = λ all r. ([], r, replayed-none hs);
  stays = record { told = refl; size = refl; images = adds_nothing disk.images };
  within = some;
  later = omega arith;
}

-- one change more was found and made
pub replays-more : (start now next : SeenDisk) (gate end_ : ℕ) (first hs after : List HeldTable) (found : Found) (o : Option (Found × ℕ))
    → Replays start now gate first hs
    → ((changes : List Change) (all : Option (List Change)) → IsReadTo now gate changes all → FindsChange next gate changes all o)
    → IfSome o (λ f. (gate < f.1) × (f.1 < next.size)) → Stays now next → now.faults ≤ next.faults
    → o ≡ Some (found, end_) → step (change_of found) hs ≡ Some after → Replays start next end_ first after
replays-more start now next gate end_ first hs after found o was finds within stays later is made = record {
  read = λ all r.
      let so_far = was.read all r in
      let read : IsReadTo next end_ (so_far.0 ++ change_of found ∷ []) all =
      subst (FindsChange next gate so_far.0 all) is (finds so_far.0 all so_far.1) in
      (so_far.0 ++ change_of found ∷ [], read, one-more first hs after so_far.0 (change_of found) so_far.2 made);
  stays = stays_both was.stays stays;
  within = (subst (λ p. IfSome p (λ f. (gate < f.1) × (f.1 < next.size))) is within).1;
  later = omega (arith, was.later, later);
}
