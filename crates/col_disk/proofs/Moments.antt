-- How a run of calls on a disk goes on.
use Rattle.std.proofs.Common.{◌∙◌, inl, inr, ⊎_elim, ℕ, List, arith}
use Rattle.col_disk.specs.Crash.{Images, Elapses, AddsNone, LeavesOnly}
use Rattle.col_disk.specs.Disks.{SeenDisk, Stays}

-- before the first call
pub started : (old : Images) (P : List ℕ → Type 0) → ((c : List ℕ) → old.left_since old.clock c → old.may_leave c)
    → ((c : List ℕ) → old.may_leave c → P c) → LeavesOnly old old P
started old P only here = record {
  later = omega arith;
  each = λ c left. here c (only c left);
  before = λ t c le left. inl left;
}

-- one call more, after which a crash leaves what has P
pub goes_on : {old mid new : Images} (P : List ℕ → Type 0) → LeavesOnly old mid P → Elapses mid new
    → ((c : List ℕ) → new.may_leave c → P c) → LeavesOnly old new P
goes_on {old} {mid} {new} P so_far time here = record {
  later = omega (arith, so_far.later, time.later);
  each = λ c left. ⊎_elim (so_far.each c) (here c) (time.nothing_else old.clock c so_far.later left);
  before = λ t c le left. ⊎_elim (so_far.before t c le) (λ now. inr (here c now))
      (time.nothing_else t c (omega (arith, le, so_far.later)) left);
}

-- two runs, one after the other
pub joins : {old mid new : Images} (P Q : List ℕ → Type 0) → LeavesOnly old mid P → LeavesOnly mid new Q
    → ((c : List ℕ) → Q c → P c) → LeavesOnly old new P
joins {old} {mid} {new} P Q first second weaker = record {
  later = omega (arith, first.later, second.later);
  each = λ c left. ⊎_elim (first.each c) (weaker c) (second.before old.clock c first.later left);
  before = λ t c le left. ⊎_elim (first.before t c le) (λ now. inr (weaker c now))
      (second.before t c (omega (arith, le, first.later)) left);
}

-- what is left has also Q
pub leaves_weaker : {old new : Images} (P Q : List ℕ → Type 0) → LeavesOnly old new P → ((c : List ℕ) → P c → Q c)
    → LeavesOnly old new Q
leaves_weaker {old} {new} P Q run weaker = record {
  later = run.later;
  each = λ c left. weaker c (run.each c left);
  before = λ t c le left. ⊎_elim (λ was. inl was) (λ now. inr (weaker c now)) (run.before t c le left);
}

-- where nothing was written, time goes on
pub none_time : {old new : Images} → AddsNone old new → Elapses old new
none_time {old} {new} a = record {
  later = a.later;
  nothing_else = λ t c le left. inl (a.nothing_new t c le left);
  keeps = a.keeps;
}

-- no call at all
pub adds_nothing : (images : Images) → AddsNone images images
adds_nothing images = record {
  later = omega arith;
  nothing_new = λ t c le left. left;
  keeps = λ t c le left. left;
  fewer = λ c left. left;
}

-- two calls that write nothing
pub adds_both : {old mid new : Images} → AddsNone old mid → AddsNone mid new → AddsNone old new
adds_both {old} {mid} {new} a b = record {
  later = omega (arith, a.later, b.later);
  nothing_new = λ t c le left. a.nothing_new t c le (b.nothing_new t c (omega (arith, le, a.later)) left);
  keeps = λ t c le was. b.keeps t c (omega (arith, le, a.later)) (a.keeps t c le was);
  fewer = λ c left. a.fewer c (b.fewer c left);
}

-- on a disk
pub stays_both : {old mid new : SeenDisk} → Stays old mid → Stays mid new → Stays old new
stays_both {old} {mid} {new} a b = record {
  told = b.told ∙ a.told;
  size = b.size ∙ a.size;
  images = adds_both a.images b.images;
}
