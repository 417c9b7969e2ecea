-- Files that are open beside the tables that have a row alive.
use Rattle.std.proofs.Common.{◌≡◌, ℕ, zero, suc, ◌+◌, ◌-◌, ◌<◌, ◌≤◌, ◌^◌, List, [], ◌∷◌, ◌++◌, length, take, get_or, refl, sym, ap, ◌∙◌, subst, arith}
use Rattle.std.specs.List.{AllZip, remove}
use Rattle.std.proofs.Math.ListN.{set}
use Rattle.std.proofs.lemmas.List.Sums.{sum_by-append, sum_by-cons}
use Rattle.col_file.specs.Readers.{SeenReader}
use Rattle.col_segments.specs.Files.{AreOpenBeside, ReadsTable}
use Rattle.col_segments.specs.Live.{with_alive}
use Rattle.col_segments.specs.Segments.{HeldTable, alive_count, without}
use Rattle.col_segments.proofs.KeptLemmas.{some-alive, none-alive, one-set, none-set}
use Rattle.col_segments.proofs.ReaderLemmas.{kept_tables, kept-more, kept-same, last-gone, none-gone, set-same, set-gone, place-within}
use Rattle.col_segments.proofs.DropLemmas.{Drops, dropped_from, drops-all, drops-more, drops-none, without-fewer}
use Rattle.col_segments.proofs.RowLemmas.{rows-fewer}

-- a file is put behind the others
pub open-pushed : (hs gs : List HeldTable) (h : HeldTable) (rs qs : List SeenReader) (r : SeenReader) (n : ℕ) → gs ≡ hs ++ h ∷ []
    → AreOpenBeside hs rs → alive_count (hs ++ h ∷ []) < 2 ^ 32 → ReadsTable h.table r → n ≡ length h.alive
    → (0 < n → qs ≡ rs ++ r ∷ []) → (n ≡ 0 → qs ≡ rs) → AreOpenBeside gs qs
open-pushed hs gs h rs qs r n is are few reads count some none =
    subst (λ (gs : List HeldTable). AreOpenBeside gs qs) (sym is) (by n count some none)
  where
    by : (n : ℕ) → n ≡ length h.alive → (0 < n → qs ≡ rs ++ r ∷ []) → (n ≡ 0 → qs ≡ rs) → AreOpenBeside (hs ++ h ∷ []) qs
    by zero count some none = record {
      few = few;
      open_ =
          subst (AllZip ReadsTable (kept_tables (hs ++ h ∷ []))) (sym (none refl))
          (kept-same ReadsTable hs h rs (omega (arith, count)) are.open_);
    }
    by (suc n) count some none = record {
      few = few;
      open_ =
          subst (AllZip ReadsTable (kept_tables (hs ++ h ∷ []))) (sym (some (omega arith)))
          (kept-more ReadsTable hs h rs r (omega (arith, count)) are.open_ reads);
    }

-- the last one is let go
module _ (hs gs : List HeldTable) (h : HeldTable) (rs : List SeenReader) (is : gs ≡ hs ++ h ∷ []) (are : AreOpenBeside gs rs) where
  fewer : alive_count hs < 2 ^ 32
  fewer = omega (
    arith,
    are.few,
    ap alive_count is,
    sum_by-append (λ (g : HeldTable). length g.alive) hs (h ∷ []),
    sum_by-cons (λ (g : HeldTable). length g.alive) h [],
  )

  there : AllZip ReadsTable (kept_tables (hs ++ h ∷ [])) rs
  there = subst (λ (gs : List HeldTable). AllZip ReadsTable (kept_tables gs) rs) is are.open_

  pub open-popped : (qs : List SeenReader) (n : ℕ) → n ≡ length rs → 0 < length h.alive → qs ≡ take (n - 1) rs → AreOpenBeside hs qs
  open-popped qs n long some cut = record {
    few = fewer;
    open_ =
        subst (AllZip ReadsTable (kept_tables hs)) (sym (cut ∙ ap (λ (n : ℕ). take (n - 1) rs) long))
        (last-gone ReadsTable hs h rs some there);
  }

  pub open-left : length h.alive ≤ 0 → AreOpenBeside hs rs
  open-left none = record { few = fewer; open_ = none-gone ReadsTable hs h rs none there }

-- ---- rows that are dropped

-- Rows of the tables up to a place were dropped, and the next open file is that of the next table
-- that has a row alive.
pub record DropsOpen (ids : List ℕ) (old : List HeldTable) (at first next : ℕ) (now : List HeldTable) (rs : List SeenReader)
    : Type 0 where
  pub drops : Drops ids old at first now
  pub open_ : AllZip ReadsTable (kept_tables now) rs
  pub next_is : next ≡ length (with_alive (take at now))

pub drops_open : (ids : List ℕ) (old : List HeldTable) (rs : List SeenReader) → AreOpenBeside old rs → DropsOpen ids old 0 0 0 old rs
drops_open ids old rs are = record { drops = drops-none ids old; open_ = are.open_; next_is = refl }

module _ (ids : List ℕ) (old now : List HeldTable) (at first next : ℕ) (rs : List SeenReader) (d : HeldTable)
    (was : DropsOpen ids old at first next now rs) (within : at < length now) where
  abbrev pub left_of : HeldTable
  left_of = dropped_from ids first (get_or now at d)

  -- there is an open file at the place, where the table has a row alive
  pub next-within : 0 < length (get_or now at d).alive → next < length rs
  next-within some = omega (arith, was.next_is, place-within ReadsTable now at d rs within some was.open_)

  drops : Drops ids old (at + 1) (first + length (get_or now at d).alive) (set now at left_of)
  drops = drops-more ids old now at first d was.drops within

  -- no row of the table was alive
  pub open-none : length (get_or now at d).alive ≤ 0
      → DropsOpen ids old (at + 1) (first + length (get_or now at d).alive) next (set now at left_of) rs
  open-none none = record {
    drops = drops;
    open_ =
        set-same ReadsTable now at d left_of rs within refl
        (none-alive left_of (omega (arith, none, rows-fewer ids first (get_or now at d).alive)) ∙ sym (none-alive (get_or now at d) none))
        was.open_;
    next_is = was.next_is ∙ sym (none-set now at left_of within (omega (arith, none, rows-fewer ids first (get_or now at d).alive)));
  }

  -- some were, and some are
  pub open-some : 0 < length (get_or now at d).alive → 0 < length left_of.alive
      → DropsOpen ids old (at + 1) (first + length (get_or now at d).alive) (next + 1) (set now at left_of) rs
  open-some some left = record {
    drops = drops;
    open_ =
        set-same ReadsTable now at d left_of rs within refl
        (some-alive left_of left ∙ sym (some-alive (get_or now at d) some)) was.open_;
    next_is = ap (λ (n : ℕ). n + 1) was.next_is ∙ sym (one-set now at left_of within left);
  }

  -- some were, and none is
  pub open-gone : 0 < length (get_or now at d).alive → length left_of.alive ≤ 0
      → DropsOpen ids old (at + 1) (first + length (get_or now at d).alive) next (set now at left_of) (remove rs next)
  open-gone some none = record {
    drops = drops;
    open_ =
        subst (λ (n : ℕ). AllZip ReadsTable (kept_tables (set now at left_of)) (remove rs n)) (sym was.next_is)
        (set-gone ReadsTable now at d left_of rs within some none was.open_);
    next_is = was.next_is ∙ sym (none-set now at left_of within none);
  }

  -- one table more, whatever the calls told of it
  pub drops-next : (g : HeldTable) (first2 next2 before after : ℕ) (qs : List SeenReader) → g ≡ left_of
      → before ≡ length (get_or now at d).alive → after ≡ length g.alive → first2 ≡ first + before
      → (before ≡ 0 → (next2 ≡ next) × (qs ≡ rs))
      → (0 < before → 0 < after → (next2 ≡ next + 1) × (qs ≡ rs))
      → (0 < before → after ≡ 0 → (next2 ≡ next) × (qs ≡ remove rs next))
      → DropsOpen ids old (at + 1) first2 next2 (set now at g) qs
  drops-next g first2 next2 before after qs is count left counted none some gone =
      moved (ap (λ (h : HeldTable). set now at h) is) (counted ∙ ap (λ (n : ℕ). first + n) count)
      (by before after count (left ∙ ap (λ (h : HeldTable). length h.alive) is) none some gone)
    where
      Next : ℕ → List SeenReader → Type 0
      Next m ps = DropsOpen ids old (at + 1) (first + length (get_or now at d).alive) m (set now at left_of) ps

      moved : set now at g ≡ set now at left_of → first2 ≡ first + length (get_or now at d).alive → Next next2 qs
          → DropsOpen ids old (at + 1) first2 next2 (set now at g) qs
      moved same sum here =
          subst (λ (hs : List HeldTable). DropsOpen ids old (at + 1) first2 next2 hs qs) (sym same)
          (subst (λ (n : ℕ). DropsOpen ids old (at + 1) n next2 (set now at left_of) qs) (sym sum) here)

      placed : (m : ℕ) (ps : List SeenReader) → (next2 ≡ m) × (qs ≡ ps) → Next m ps → Next next2 qs
      placed m ps p here =
          subst (λ (m : ℕ). Next m qs) (sym p.0) (subst (λ (ps : List SeenReader). Next m ps) (sym p.1) here)

      by : (before after : ℕ) → before ≡ length (get_or now at d).alive → after ≡ length left_of.alive
          → (before ≡ 0 → (next2 ≡ next) × (qs ≡ rs))
          → (0 < before → 0 < after → (next2 ≡ next + 1) × (qs ≡ rs))
          → (0 < before → after ≡ 0 → (next2 ≡ next) × (qs ≡ remove rs next))
          → Next next2 qs
      by zero after count left none some gone = placed next rs (none refl) (open-none (omega (arith, count)))
      by (suc before) zero count left none some gone =
          placed next (remove rs next) (gone (omega arith) refl) (open-gone (omega (arith, count)) (omega (arith, left)))
      by (suc before) (suc after) count left none some gone =
          placed (next + 1) rs (some (omega arith) (omega arith)) (open-some (omega (arith, count)) (omega (arith, left)))

-- all tables
pub drops_end : (ids : List ℕ) (old now : List HeldTable) (at first next : ℕ) (rs : List SeenReader)
    → DropsOpen ids old at first next now rs → length now ≤ at → now ≡ without ids 0 old
drops_end ids old now at first next rs was whole = drops-all ids old now at first was.drops whole

-- they are few still, and open
pub drops-kept : (ids : List ℕ) (old now : List HeldTable) (at first next : ℕ) (olds rs : List SeenReader) → AreOpenBeside old olds
    → DropsOpen ids old at first next now rs → length now ≤ at → AreOpenBeside now rs
drops-kept ids old now at first next olds rs are was whole = record {
  few = omega (arith, are.few, without-fewer ids 0 old, ap alive_count (drops-all ids old now at first was.drops whole));
  open_ = was.open_;
}
