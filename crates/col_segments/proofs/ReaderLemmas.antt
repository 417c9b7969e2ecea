-- What stands beside the tables that have a row alive, one for each.
use Rattle.std.proofs.Common.{◌≡◌, ℕ, zero, suc, ◌+◌, ◌-◌, ◌<◌, ◌≤◌, ◌==◌, not, Bool, true, false, cond, List, [], ◌∷◌, ◌++◌, length, take, get_or, map, sym, ap, ◌∙◌, subst, arith, length-append}
use Rattle.std.specs.List.{AllZip, remove}
use Rattle.std.proofs.Math.ListN.{set}
use Rattle.std.proofs.lemmas.List.{map-append, length-map}
use Rattle.std.proofs.lemmas.Slice.Zip.{AllZip-long}
use Rattle.col_model.specs.Table.{Table}
use Rattle.col_model.proofs.ListLaws.{zip-more}
use Rattle.col_segments.specs.Live.{with_alive}
use Rattle.col_segments.specs.Segments.{HeldTable}
use Rattle.col_segments.proofs.KeptLemmas.{count-more, some-alive, none-alive, with_alive-more, with_alive-same}

-- ---- lists side by side

-- without what stands behind
zip-front : {A B : Type 0} (R : A → B → Type 0) (xs : List A) (x : A) (ys : List B) → AllZip R (xs ++ x ∷ []) ys
    → AllZip R xs (take (length xs) ys)
zip-front R [] x ys all = tt
zip-front R (w ∷ xs) x [] all = absurd all
zip-front R (w ∷ xs) x (v ∷ ys) all = (all.0, zip-front R xs x ys all.1)

-- what follows from what holds of each pair
pub zip-weaker : {A B : Type 0} (R Q : A → B → Type 0) (xs : List A) (ys : List B) → ((x : A) (y : B) → R x y → Q x y)
    → AllZip R xs ys → AllZip Q xs ys
zip-weaker R Q [] [] f all = tt
zip-weaker R Q [] (y ∷ ys) f all = absurd all
zip-weaker R Q (x ∷ xs) [] f all = absurd all
zip-weaker R Q (x ∷ xs) (y ∷ ys) f all = (f x y all.0, zip-weaker R Q xs ys f all.1)

-- one list beside two others
pub zip-through : {A B C : Type 0} (R : A → B → Type 0) (S : B → C → Type 0) (Q : A → C → Type 0) (xs : List A) (ys : List B)
    (zs : List C) → ((x : A) (y : B) (z : C) → R x y → S y z → Q x z) → AllZip R xs ys → AllZip S ys zs → AllZip Q xs zs
zip-through R S Q [] [] [] f all also = tt
zip-through R S Q [] [] (z ∷ zs) f all also = absurd also
zip-through R S Q [] (y ∷ ys) zs f all also = absurd all
zip-through R S Q (x ∷ xs) [] zs f all also = absurd all
zip-through R S Q (x ∷ xs) (y ∷ ys) [] f all also = absurd also
zip-through R S Q (x ∷ xs) (y ∷ ys) (z ∷ zs) f all also = (f x y z all.0 also.0, zip-through R S Q xs ys zs f all.1 also.1)

-- ---- tables that have a row alive

-- the tables that have a row alive
abbrev pub kept_tables : List HeldTable → List Table
kept_tables hs = map (λ h. h.table) (with_alive hs)

-- those with a table behind them
tables-more : (hs : List HeldTable) (h : HeldTable) → 0 < length h.alive → kept_tables (hs ++ h ∷ []) ≡ kept_tables hs ++ h.table ∷ []
tables-more hs h some =
    ap (map (λ (h : HeldTable). h.table)) (with_alive-more hs h some) ∙ map-append (λ (h : HeldTable). h.table) (with_alive hs) (h ∷ [])

module _ {B : Type 0} (R : Table → B → Type 0) where
  -- a table behind the others
  pub kept-more : (hs : List HeldTable) (h : HeldTable) (rs : List B) (r : B) → 0 < length h.alive → AllZip R (kept_tables hs) rs
      → R h.table r → AllZip R (kept_tables (hs ++ h ∷ [])) (rs ++ r ∷ [])
  kept-more hs h rs r some all here =
      subst (λ ts. AllZip R ts (rs ++ r ∷ [])) (sym (tables-more hs h some)) (zip-more R (kept_tables hs) rs h.table r all here)

  pub kept-same : (hs : List HeldTable) (h : HeldTable) (rs : List B) → length h.alive ≤ 0 → AllZip R (kept_tables hs) rs
      → AllZip R (kept_tables (hs ++ h ∷ [])) rs
  kept-same hs h rs none all =
      subst (λ ts. AllZip R ts rs) (sym (ap (map (λ (h : HeldTable). h.table)) (with_alive-same hs h none))) all

  -- the last table is let go
  pub last-gone : (hs : List HeldTable) (h : HeldTable) (rs : List B) → 0 < length h.alive → AllZip R (kept_tables (hs ++ h ∷ [])) rs
      → AllZip R (kept_tables hs) (take (length rs - 1) rs)
  last-gone hs h rs some all =
      let there = subst (λ ts. AllZip R ts rs) (tables-more hs h some) all in
      let long = AllZip-long R (kept_tables hs ++ h.table ∷ []) rs there in
      let count : length (kept_tables hs) ≡ length rs - 1 = omega (arith, long, length-append (kept_tables hs) (h.table ∷ [])) in
      subst (λ n. AllZip R (kept_tables hs) (take n rs)) count (zip-front R (kept_tables hs) h.table rs there)

  pub none-gone : (hs : List HeldTable) (h : HeldTable) (rs : List B) → length h.alive ≤ 0 → AllZip R (kept_tables (hs ++ h ∷ [])) rs
      → AllZip R (kept_tables hs) rs
  none-gone hs h rs none all = subst (λ ts. AllZip R ts rs) (ap (map (λ (h : HeldTable). h.table)) (with_alive-same hs h none)) all

  abbrev Beside : Bool → HeldTable → List HeldTable → List B → Type 0
  Beside b h hs rs = AllZip R (map (λ h. h.table) (cond b (h ∷ with_alive hs) (with_alive hs))) rs

  -- Another table of the same kind stands at a place: it has a row alive where the old one had one.
  pub set-same : (hs : List HeldTable) (i : ℕ) (d g : HeldTable) (rs : List B) → i < length hs
      → g.table ≡ (get_or hs i d).table → not (length g.alive == 0) ≡ not (length (get_or hs i d).alive == 0)
      → AllZip R (kept_tables hs) rs → AllZip R (kept_tables (set hs i g)) rs
  set-same [] i d g rs lt table alive all = absurd (omega arith)
  set-same (h ∷ hs) zero d g rs lt table alive all =
      subst (λ b. Beside b g hs rs) (sym alive) (by (not (length h.alive == 0)) rs all)
    where
      by : (b : Bool) (rs : List B) → Beside b h hs rs → Beside b g hs rs
      by true [] all = absurd all
      by true (r ∷ rs) all = (subst (λ t. R t r) (sym table) all.0, all.1)
      by false rs all = all
  set-same (h ∷ hs) (suc i) d g rs lt table alive all =
      by (not (length h.alive == 0)) rs all (λ rs. set-same hs i d g rs (omega (arith, lt)) table alive)
    where
      by : (b : Bool) (rs : List B) → Beside b h hs rs
          → ((rs : List B) → AllZip R (kept_tables hs) rs → AllZip R (kept_tables (set hs i g)) rs)
          → Beside b h (set hs i g) rs
      by true [] all later = absurd all
      by true (r ∷ rs) all later = (all.0, later rs all.1)
      by false rs all later = later rs all

  -- The table at a place has no row alive any more.
  pub set-gone : (hs : List HeldTable) (i : ℕ) (d g : HeldTable) (rs : List B) → i < length hs
      → 0 < length (get_or hs i d).alive → length g.alive ≤ 0
      → AllZip R (kept_tables hs) rs → AllZip R (kept_tables (set hs i g)) (remove rs (length (with_alive (take i hs))))
  set-gone [] i d g rs lt some none all = absurd (omega arith)
  set-gone (h ∷ hs) zero d g rs lt some none all =
      subst (λ b. Beside b g hs (remove rs 0)) (sym (none-alive g none))
      (by rs (subst (λ b. Beside b h hs rs) (some-alive h some) all))
    where
      by : (rs : List B) → Beside true h hs rs → Beside false g hs (remove rs 0)
      by [] all = absurd all
      by (r ∷ rs) all = all.1
  set-gone (h ∷ hs) (suc i) d g rs lt some none all =
      by (not (length h.alive == 0)) rs all (λ rs. set-gone hs i d g rs (omega (arith, lt)) some none)
    where
      by : (b : Bool) (rs : List B) → Beside b h hs rs
          → ((rs : List B) → AllZip R (kept_tables hs) rs
          → AllZip R (kept_tables (set hs i g)) (remove rs (length (with_alive (take i hs)))))
          → Beside b h (set hs i g) (remove rs (length (cond b (h ∷ with_alive (take i hs)) (with_alive (take i hs)))))
      by true [] all later = absurd all
      by true (r ∷ rs) all later = (all.0, later rs all.1)
      by false rs all later = later rs all

  front-fewer : (hs : List HeldTable) (i : ℕ) → length (with_alive (take i hs)) ≤ length (with_alive hs)
  front-fewer [] zero = omega arith
  front-fewer [] (suc i) = omega arith
  front-fewer (h ∷ hs) zero = omega arith
  front-fewer (h ∷ hs) (suc i) = by (not (length h.alive == 0)) (front-fewer hs i)
    where
      by : (b : Bool) → length (with_alive (take i hs)) ≤ length (with_alive hs)
          → length (cond b (h ∷ with_alive (take i hs)) (with_alive (take i hs))) ≤ length (cond b (h ∷ with_alive hs) (with_alive hs))
      by true le = omega (arith, le)
      by false le = le

  -- there is one beside the table at a place
  pub place-within : (hs : List HeldTable) (i : ℕ) (d : HeldTable) (rs : List B) → i < length hs → 0 < length (get_or hs i d).alive
      → AllZip R (kept_tables hs) rs → length (with_alive (take i hs)) < length rs
  place-within hs i d rs lt some all =
      omega (
        arith,
        count-more hs i d lt some,
        front-fewer hs (i + 1),
        AllZip-long R (kept_tables hs) rs all,
        length-map (with_alive hs) (λ (h : HeldTable). h.table),
      )

  -- and it is of that table
  pub kept-at : (hs : List HeldTable) (i : ℕ) (d : HeldTable) (rs : List B) (e : B) → i < length hs → 0 < length (get_or hs i d).alive
      → AllZip R (kept_tables hs) rs → R (get_or hs i d).table (get_or rs (length (with_alive (take i hs))) e)
  kept-at [] i d rs e lt some all = absurd (omega (arith, lt))
  kept-at (h ∷ hs) zero d rs e lt some all = by rs (subst (λ b. Beside b h hs rs) (some-alive h some) all)
    where
      by : (rs : List B) → Beside true h hs rs → R h.table (get_or rs 0 e)
      by [] all = absurd all
      by (r ∷ rs) all = all.0
  kept-at (h ∷ hs) (suc i) d rs e lt some all =
      by (not (length h.alive == 0)) rs all (λ rs. kept-at hs i d rs e (omega (arith, lt)) some)
    where
      by : (b : Bool) (rs : List B) → Beside b h hs rs
          → ((rs : List B) → AllZip R (kept_tables hs) rs → R (get_or hs i d).table (get_or rs (length (with_alive (take i hs))) e))
          → R (get_or hs i d).table (get_or rs (length (cond b (h ∷ with_alive (take i hs)) (with_alive (take i hs)))) e)
      by true [] all later = absurd all
      by true (r ∷ rs) all later = later rs all.1
      by false rs all later = later rs all
