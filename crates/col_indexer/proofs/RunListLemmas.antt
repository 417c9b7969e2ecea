-- Runs as two lists, of their starts and of their lengths.
use Rattle.std.proofs.Common.{◌≡◌, ℕ, ◌+◌, ◌^◌, ◌<◌, ◌≤◌, ◌==◌, true, false, List, [], ◌∷◌, ◌++◌, length, get_or, set, refl, sym, ap, ap₂, ◌∙◌, inl, inr, arith, zip, subst}
use Rattle.std.proofs.lemmas.Bool.{eqb-true, true≢false, eq-eqb, ne_eqb, cases_eq}
use Rattle.std.proofs.lemmas.List.{length-map, length_push, length-set, nil_from_length}
use Rattle.std.proofs.lemmas.Slice.Zip.{firsts-zip, seconds-zip}
use Rattle.col_model.specs.Index.{run_starts, run_lengths}
use Rattle.col_indexer.specs.Runs.{then_run, ends_at, EndBelow, AreRunLists}

-- ---- the lists of runs

-- the starts of runs that are kept as two lists
pub starts-shown : (starts lengths : List ℕ) (rs : List (ℕ × ℕ)) → AreRunLists starts lengths → zip starts lengths ≡ rs
    → starts ≡ run_starts rs
starts-shown starts lengths rs a e = sym (firsts-zip starts lengths (sym a.same)) ∙ ap run_starts e

-- their lengths
pub lengths-shown : (starts lengths : List ℕ) (rs : List (ℕ × ℕ)) → AreRunLists starts lengths → zip starts lengths ≡ rs
    → lengths ≡ run_lengths rs
lengths-shown starts lengths rs a e = sym (seconds-zip starts lengths (sym a.same)) ∙ ap run_lengths e

-- how many runs there are
pub runs-counted : (starts lengths : List ℕ) (rs : List (ℕ × ℕ)) → AreRunLists starts lengths → zip starts lengths ≡ rs
    → length starts ≡ length rs
runs-counted starts lengths rs a e = ap length (starts-shown starts lengths rs a e) ∙ length-map rs (λ r. r.0)

-- ---- one run more

-- runs with one more end below the bound
then-below : (bound : ℕ) (rs : List (ℕ × ℕ)) (run : ℕ × ℕ) → EndBelow bound rs → run.0 + run.1 < bound
    → EndBelow bound (then_run rs run)
unfolding then_run
then-below bound [] run h k = (k, tt)
then-below bound (r ∷ []) run h k = elim (cases_eq (r.0 + r.1) run.0) [
  | inl e ↦ rw (eq-eqb (r.0 + r.1) run.0 e) (omega arith, tt)
  | inr m ↦ rw (ne_eqb (r.0 + r.1) run.0 m) (h.0, (k, tt))
]
then-below bound (r ∷ q ∷ rs) run h k = (h.0, then-below bound (q ∷ rs) run h.1 k)

-- the last length is changed where the last run ends at the new one's start
last-joined : (r : ℕ × ℕ) (rs : List (ℕ × ℕ)) (start n b : ℕ) → ends_at (r ∷ rs) start ≡ true
    → b ≡ get_or (run_lengths (r ∷ rs)) (length rs) b
    → zip (run_starts (r ∷ rs)) (set (run_lengths (r ∷ rs)) (length rs) (b + n)) ≡ then_run (r ∷ rs) (start, n)
unfolding ends_at then_run
last-joined r [] start n b e f = rw e (ap (λ m. (r.0, m + n) ∷ []) f)
last-joined r (q ∷ rs) start n b e f = ap (λ ps. r ∷ ps) (last-joined q rs start n b e f)

-- the last run is at most as long as the place where it ends
last-short : (r : ℕ × ℕ) (rs : List (ℕ × ℕ)) (start b : ℕ) → ends_at (r ∷ rs) start ≡ true
    → b ≡ get_or (run_lengths (r ∷ rs)) (length rs) b → b ≤ start
unfolding ends_at
last-short r [] start b e f = omega (arith, eqb-true (r.0 + r.1) start e)
last-short r (q ∷ rs) start b e f = last-short q rs start b e f

-- runs that end elsewhere have the new one behind them
last-apart : (rs : List (ℕ × ℕ)) (start n : ℕ) → ends_at rs start ≡ false
    → zip (run_starts rs ++ start ∷ []) (run_lengths rs ++ n ∷ []) ≡ then_run rs (start, n)
unfolding ends_at then_run
last-apart [] start n e = refl
last-apart (r ∷ []) start n e = rw e refl
last-apart (r ∷ q ∷ rs) start n e = ap (λ ps. r ∷ ps) (last-apart (q ∷ rs) start n e)

-- a last length that is changed, at its place among the lengths
joined-runs : (rs : List (ℕ × ℕ)) (start n b k : ℕ) → k + 1 ≡ length (run_lengths rs) → ends_at rs start ≡ true
    → b ≡ get_or (run_lengths rs) k b
    → (zip (run_starts rs) (set (run_lengths rs) k (b + n)) ≡ then_run rs (start, n)) × (b ≤ start)
joined-runs [] start n b k h e f = absurd (omega arith)
joined-runs (r ∷ rs) start n b k h e f =
    let at : k ≡ length rs = omega (arith, length-map rs (λ r. r.1)) in
    let last = subst (λ k. b ≡ get_or (run_lengths (r ∷ rs)) k b) at f in (
      ap (λ k. zip (run_starts (r ∷ rs)) (set (run_lengths (r ∷ rs)) k (b + n))) at ∙ last-joined r rs start n b e last,
      last-short r rs start b e last,
    )

-- runs that are none end nowhere
pub ends-none : (starts lengths : List ℕ) (rs : List (ℕ × ℕ)) (row : ℕ) → zip starts lengths ≡ rs → length starts ≡ 0
    → false ≡ ends_at rs row
unfolding ends_at
ends-none starts lengths rs row e h =
    ap (λ rs. ends_at rs row) (sym (ap (λ ss. zip ss lengths) (nil_from_length starts h)) ∙ e)

ends-last : (r : ℕ × ℕ) (rs : List (ℕ × ℕ)) (x y row : ℕ) → x ≡ get_or (run_starts (r ∷ rs)) (length rs) x
    → y ≡ get_or (run_lengths (r ∷ rs)) (length rs) y → (x + y == row) ≡ ends_at (r ∷ rs) row
unfolding ends_at
ends-last r [] x y row e f = ap₂ (λ x y. x + y == row) e f
ends-last r (q ∷ rs) x y row e f = ends-last q rs x y row e f

last-below : (bound : ℕ) (r : ℕ × ℕ) (rs : List (ℕ × ℕ)) (x y : ℕ) → EndBelow bound (r ∷ rs)
    → x ≡ get_or (run_starts (r ∷ rs)) (length rs) x → y ≡ get_or (run_lengths (r ∷ rs)) (length rs) y → x + y < bound
last-below bound r [] x y h e f = let first = h.0 in omega arith
last-below bound r (q ∷ rs) x y h e f = last-below bound q rs x y h.1 e f

-- where the last of runs ends
ends-runs : (bound : ℕ) (rs : List (ℕ × ℕ)) (x y k row : ℕ) → EndBelow bound rs → k + 1 ≡ length (run_starts rs)
    → x ≡ get_or (run_starts rs) k x → y ≡ get_or (run_lengths rs) k y
    → ((x + y == row) ≡ ends_at rs row) × (x + y < bound)
ends-runs bound [] x y k row b h e f = absurd (omega arith)
ends-runs bound (r ∷ rs) x y k row b h e f =
    let at : k ≡ length rs = omega (arith, length-map rs (λ r. r.0)) in
    let first = subst (λ k. x ≡ get_or (run_starts (r ∷ rs)) k x) at e in
    let last = subst (λ k. y ≡ get_or (run_lengths (r ∷ rs)) k y) at f in
    (ends-last r rs x y row first last, last-below bound r rs x y b first last)

-- two lists of runs, which are these
pub record Lists (starts lengths : List ℕ) (rs : List (ℕ × ℕ)) : Type 0 where
  pub lists : AreRunLists starts lengths
  pub view : zip starts lengths ≡ rs

module _ (starts lengths : List ℕ) (rs : List (ℕ × ℕ)) (a : AreRunLists starts lengths) (e : zip starts lengths ≡ rs) where
  -- the last run's end, by the last start and the last length
  pub ends-shown : (x y k row : ℕ) → k + 1 ≡ length starts → x ≡ get_or starts k x → y ≡ get_or lengths k y
      → ((x + y == row) ≡ ends_at rs row) × (x + y < 2 ^ 32)
  ends-shown x y k row h f g =
      let first = starts-shown starts lengths rs a e in
      let last = lengths-shown starts lengths rs a e in
      ends-runs (2 ^ 32) rs x y k row (subst (EndBelow (2 ^ 32)) e a.ends) (h ∙ ap length first)
      (f ∙ ap (λ ss. get_or ss k x) first) (g ∙ ap (λ ls. get_or ls k y) last)

module _ (starts lengths : List ℕ) (rs : List (ℕ × ℕ)) (a : AreRunLists starts lengths) (e : zip starts lengths ≡ rs)
    (start n : ℕ) where
  -- runs that end at a row are some
  pub ends-some : ends_at rs start ≡ true → 0 < length lengths
  unfolding ends_at
  ends-some f = at rs (lengths-shown starts lengths rs a e) f
    where
      at : (rs : List (ℕ × ℕ)) → lengths ≡ run_lengths rs → ends_at rs start ≡ true → 0 < length lengths
      at [] g f = absurd (true≢false (sym f))
      at (r ∷ rs) g f = omega (arith, ap length g)

  -- the last length with the new one on top
  pub joined-length : (b k : ℕ) → k + 1 ≡ length lengths → ends_at rs start ≡ true → b ≡ get_or lengths k b → b ≤ start
  joined-length b k h f g =
      let shown = lengths-shown starts lengths rs a e in
      (joined-runs rs start n b k (h ∙ ap length shown) f (g ∙ ap (λ ls. get_or ls k b) shown)).1

  -- one more run ends below the bound
  more-ends : start + n < 2 ^ 32 → EndBelow (2 ^ 32) (then_run rs (start, n))
  more-ends h = then-below (2 ^ 32) rs (start, n) (subst (EndBelow (2 ^ 32)) e a.ends) h

  -- a run that makes the last one longer
  pub joined : (b k : ℕ) → k + 1 ≡ length lengths → ends_at rs start ≡ true → b ≡ get_or lengths k b → start + n < 2 ^ 32
      → Lists starts (set lengths k (b + n)) (then_run rs (start, n))
  joined b k h f g fits =
      let shown = lengths-shown starts lengths rs a e in
      let more = (joined-runs rs start n b k (h ∙ ap length shown) f (g ∙ ap (λ ls. get_or ls k b) shown)).0 in
      let view = ap₂ (λ ss ls. zip ss (set ls k (b + n))) (starts-shown starts lengths rs a e) shown ∙ more in
      record {
        lists = record {
          same = a.same ∙ sym (length-set lengths k (b + n));
          ends = subst (EndBelow (2 ^ 32)) (sym view) (more-ends fits);
        };
        view = view;
      }

  apart : ends_at rs start ≡ false → start + n < 2 ^ 32
      → Lists (starts ++ start ∷ []) (lengths ++ n ∷ []) (then_run rs (start, n))
  apart f fits =
      let view = ap₂ (λ ss ls. zip (ss ++ start ∷ []) (ls ++ n ∷ [])) (starts-shown starts lengths rs a e)
      (lengths-shown starts lengths rs a e) ∙ last-apart rs start n f in
      record {
        lists = record {
          same = length_push starts start ∙ ap (λ n. n + 1) a.same ∙ sym (length_push lengths n);
          ends = subst (EndBelow (2 ^ 32)) (sym view) (more-ends fits);
        };
        view = view;
      }

  -- a run behind the last one
  pub added : (ss ls : List ℕ) → ss ≡ starts ++ start ∷ [] → ls ≡ lengths ++ n ∷ [] → ends_at rs start ≡ false
      → start + n < 2 ^ 32 → Lists ss ls (then_run rs (start, n))
  added ss ls g h f fits =
      subst (λ ss. Lists ss ls (then_run rs (start, n))) (sym g)
      (subst (λ ls. Lists (starts ++ start ∷ []) ls (then_run rs (start, n))) (sym h) (apart f fits))
