-- The columns of a slot, where the rows between them that have none are one segment.
use Rattle.std.proofs.Common.{◌≡◌, ℕ, zero, suc, ◌+◌, ◌≤◌, ◌<◌, ◌==◌, Bool, true, false, List, [], ◌∷◌, ◌++◌, length, take, drop, sum, Option, Some, None, IfSome, option_map, slice_get, refl, sym, ap, ap₂, ◌∙◌, subst, arith}
use Rattle.std.specs.Prelude.{if◌then◌else◌, slice_index, slice_index_or}
use Rattle.std.specs.List.{AllByRecursion, AllZip}
use Rattle.std.proofs.lemmas.Bool.{eqb-true}
use Rattle.std.proofs.lemmas.List.{map-append, take_all}
use Rattle.std.proofs.lemmas.List.Sums.{sum_by-append, sum_by-cons}
use Rattle.col_alike.proofs.AlikeLemmas.{LookAlike, alike-joined, alike-self}
use Rattle.col_alike.proofs.GapLemmas.{gaps_of}
use Rattle.col_alike.proofs.ShortLemmas.{gap-behind, one-behind, rows-between}
use Rattle.col_column.specs.Columns.{row_count}
use Rattle.col_dynamic.specs.Dynamic.{dynamic_shape, value_count}
use Rattle.col_dynamic.specs.declared.dynamic_column.DynamicColumn.{DynamicColumn}
use Rattle.col_file.specs.Readers.{SeenReader, IsRead}
use Rattle.col_merge.proofs.EndLemmas.{told-each}
use Rattle.col_merge.proofs.LackLemmas.{part-at, parts-lack}
use Rattle.col_merge.proofs.OpenTurnLemmas.{zip-length}
use Rattle.col_merge.proofs.PartLemmas.{ArePartsOf, parts-told, counts-told}
use Rattle.col_merge.specs.Joined.{joined_by}
use Rattle.col_merge.specs.Opened.{IsOpenedAs}
use Rattle.col_merge.specs.Parts.{told_parts}
use Rattle.col_merge.specs.Short.{gap_counts, gap_columns, StandShort, IsShortOf}
use Rattle.col_merge_plan.proofs.CountLemmas.{length-counts}
use Rattle.col_merge_plan.specs.Placed.{has_slot}
use Rattle.col_merge_plan.specs.Slots.{counts_read, keys_read}
use Rattle.col_merge_slot.specs.JoinedSlots.{part_seen}
use Rattle.col_model.specs.Category.{Slot}
use Rattle.col_model.specs.File.{Part}
use Rattle.col_model.specs.Keys.{FileKeys}
use Rattle.col_model.specs.Merge.{column_in, row_counts}
use Rattle.col_model.specs.Order.{stack}
use Rattle.col_model.specs.Positions.{start_of}
use Rattle.col_model.proofs.SharedTypes.{some≢none, same-some}

-- a part has this column under the slot, or none
abbrev pub IsSeenAs : Slot → Part → Option DynamicColumn → Type 0
IsSeenAs slot p o = column_in slot p ≡ option_map (part_seen slot.name) o

-- a column of so many rows, or none
abbrev pub HasRows : ℕ → Option DynamicColumn → Type 0
HasRows n o = IfSome o (λ c. row_count (dynamic_shape c) (value_count c) ≡ n)

-- some parts have these row counts and these columns, and a stack sees the same of them
pub record LookShort (slot : Slot) (parts : List Part) (counts : List ℕ) (columns : List (Option DynamicColumn)) : Type 0 where
  pub short : List Part
  pub counted : row_counts short ≡ counts
  pub seen : AllZip (IsSeenAs slot) short columns
  pub alike : LookAlike slot parts short

-- the columns stand for those of the first so many readers
pub record IsShortSoFar (slot : Slot) (rs : List SeenReader) (n : ℕ) (counts : List ℕ)
    (columns : List (Option DynamicColumn)) : Type 0 where
  pub rows : sum counts ≡ start_of (counts_read rs) n
  pub fit : AllZip HasRows counts columns
  pub told : IfSome (told_parts rs) (λ parts. LookShort slot (take n parts) counts columns)

-- what is so where the parts are told is so of them
pub at-told : (P : List Part → Type 0) (rs : List SeenReader) (parts : List Part) → told_parts rs ≡ Some parts
    → IfSome (told_parts rs) P → P parts
at-told P rs parts t h = subst (λ o. IfSome o P) t h

-- ---- lists

-- pairs behind pairs
zip-append : {A B : Type 0} (R : A → B → Type 0) (xs us : List A) (ys vs : List B) → AllZip R xs ys → AllZip R us vs
    → AllZip R (xs ++ us) (ys ++ vs)
zip-append R [] us [] vs h k = k
zip-append R [] us (y ∷ ys) vs h k = absurd h
zip-append R (x ∷ xs) us [] vs h k = absurd h
zip-append R (x ∷ xs) us (y ∷ ys) vs h k = (h.0, zip-append R xs us ys vs h.1 k)

-- where the segment behind one starts
pub start-next : (counts : List ℕ) (i n : ℕ) → slice_get counts i ≡ Some n → start_of counts (i + 1) ≡ start_of counts i + n
start-next [] i n e = absurd (some≢none n (sym e))
start-next (m ∷ counts) zero n e = ap (λ n. sum (n ∷ [])) (same-some m n e) ∙ omega arith
start-next (m ∷ counts) (suc i) n e =
    let one : suc i + 1 ≡ suc (i + 1) = omega arith in
    ap (λ k. start_of (m ∷ counts) k) one
    ∙ sum_by-cons (λ k. k) m (take (i + 1) counts)
    ∙ ap (λ k. m + k) (start-next counts i n e)
    ∙ omega arith
    ∙ ap (λ k. k + n) (sym (sum_by-cons (λ k. k) m (take i counts)))

-- starts rise
pub starts-rise : (counts : List ℕ) (i k : ℕ) → start_of counts i ≤ start_of counts (i + k)
starts-rise counts zero k = omega arith
starts-rise [] (suc i) k = omega arith
starts-rise (m ∷ counts) (suc i) k =
    let one : suc i + k ≡ suc (i + k) = omega arith in
    let here = sum_by-cons (λ k. k) m (take i counts) in
    let there : start_of (m ∷ counts) (suc i + k) ≡ m + start_of counts (i + k) =
    ap (λ k. start_of (m ∷ counts) k) one ∙ sum_by-cons (λ k. k) m (take (i + k) counts) in
    let rest = starts-rise counts i k in
    omega (arith, here, there, rest)

-- ---- rows that may be none

gap-rows : (rows : ℕ) → sum (gap_counts rows) ≡ rows
gap-rows rows = by (rows == 0) refl
  where
    by : (b : Bool) → (rows == 0) ≡ b → sum (if b then [] else rows ∷ []) ≡ rows
    by true e = sym (eqb-true rows 0 e)
    by false e = omega arith

gap-fit : (rows : ℕ) → AllZip HasRows (gap_counts rows) (gap_columns rows)
gap-fit rows = by (rows == 0)
  where
    by : (b : Bool) → AllZip HasRows (if b then [] else rows ∷ []) (if b then [] else None ∷ [])
    by true = tt
    by false = (tt, tt)

gap-counted : (rows : ℕ) → row_counts (gaps_of rows) ≡ gap_counts rows
gap-counted rows = by (rows == 0)
  where
    by : (b : Bool) → row_counts (if b then [] else (record { row_count = rows; columns = [] }) ∷ []) ≡ (if b then [] else rows ∷ [])
    by true = refl
    by false = refl

gap-seen : (slot : Slot) (rows : ℕ) → AllZip (IsSeenAs slot) (gaps_of rows) (gap_columns rows)
gap-seen slot rows = by (rows == 0)
  where
    by : (b : Bool) → AllZip (IsSeenAs slot) (if b then [] else (record { row_count = rows; columns = [] }) ∷ [])
        (if b then [] else None ∷ [])
    by true = tt
    by false = (refl, tt)

-- ---- the steps

-- before the first reader there is nothing
pub short-none : (slot : Slot) (rs : List SeenReader) → IsShortSoFar slot rs 0 [] []
short-none slot rs = record {
  rows = refl;
  fit = tt;
  told = told-each rs (λ parts t. record { short = []; counted = refl; seen = tt; alike = alike-self slot [] });
}

module _ (slot : Slot) (rs : List SeenReader) (read : AllByRecursion IsRead rs) (a : ℕ) (counts : List ℕ)
    (columns : List (Option DynamicColumn)) (was : IsShortSoFar slot rs a counts columns) where
  -- the rows of readers without the slot
  pub short-gap : (k rows : ℕ) → start_of (counts_read rs) (a + k) ≡ start_of (counts_read rs) a + rows
      → ((i : ℕ) (f : FileKeys) → slice_get (keys_read rs) i ≡ Some f → a ≤ i → i < a + k → has_slot slot f ≡ false)
      → IsShortSoFar slot rs (a + k) (counts ++ gap_counts rows) (columns ++ gap_columns rows)
  short-gap k rows more none = record {
    rows =
        sum_by-append (λ k. k) counts (gap_counts rows) ∙ ap₂ (λ m n. m + n) was.rows (gap-rows rows) ∙ sym more;
    fit = zip-append HasRows counts (gap_counts rows) columns (gap_columns rows) was.fit (gap-fit rows);
    told = told-each rs (λ parts t. looks parts t (at-told _ rs parts t was.told));
  }
    where
      looks : (parts : List Part) → told_parts rs ≡ Some parts → LookShort slot (take a parts) counts columns
          → LookShort slot (take (a + k) parts) (counts ++ gap_counts rows) (columns ++ gap_columns rows)
      looks parts t so =
          let are = parts-told rs parts read t in
          let gap = take k (drop a parts) in
          let lack = parts-lack slot rs parts a k are none in
          let same : rows ≡ sum (row_counts gap) = rows-are parts are in
          record {
            short = so.short ++ gaps_of rows;
            counted =
                map-append (λ (p : Part). p.row_count) so.short (gaps_of rows)
                ∙ ap₂ (λ xs ys. xs ++ ys) so.counted (gap-counted rows);
            seen =
                zip-append (IsSeenAs slot) so.short (gaps_of rows) columns (gap_columns rows) so.seen (gap-seen slot rows);
            alike =
                subst (λ n. LookAlike slot (take (a + k) parts) (so.short ++ gaps_of n)) (sym same)
                (gap-behind slot parts so.short a so.alike k lack);
          }
        where
          rows-are : (parts : List Part) → ArePartsOf rs parts → rows ≡ sum (row_counts (take k (drop a parts)))
          rows-are parts are =
              let between = rows-between parts a k in
              let own = counts-told rs parts are in
              let here : start_of (row_counts parts) a ≡ start_of (counts_read rs) a = ap (λ ns. start_of ns a) own in
              let there : start_of (row_counts parts) (a + k) ≡ start_of (counts_read rs) (a + k) =
              ap (λ ns. start_of ns (a + k)) own in
              omega (arith, between, here, there, more)

  -- the column of the reader behind them, or none
  pub short-one : (r : SeenReader) (o : Option DynamicColumn) → slice_get rs a ≡ Some r → IsOpenedAs slot r o
      → IsShortSoFar slot rs (a + 1) (counts ++ r.keys.row_count ∷ []) (columns ++ o ∷ [])
  short-one r o is opened = record {
    rows =
        sum_by-append (λ k. k) counts (r.keys.row_count ∷ [])
        ∙ ap (λ m. m + sum (r.keys.row_count ∷ [])) was.rows
        ∙ omega arith
        ∙ sym (start-next (counts_read rs) a r.keys.row_count (count-at rs a is));
    fit = zip-append HasRows counts (r.keys.row_count ∷ []) columns (o ∷ []) was.fit (opened.rows, tt);
    told = told-each rs (λ parts t. looks parts t (at-told _ rs parts t was.told));
  }
    where
      count-at : (rs : List SeenReader) (a : ℕ) → slice_get rs a ≡ Some r → slice_get (counts_read rs) a ≡ Some r.keys.row_count
      count-at [] a e = absurd (some≢none r (sym e))
      count-at (x ∷ rs) zero e = ap (λ (r : SeenReader). Some r.keys.row_count) (same-some x r e)
      count-at (x ∷ rs) (suc a) e = count-at rs a e

      looks : (parts : List Part) → told_parts rs ≡ Some parts → LookShort slot (take a parts) counts columns
          → LookShort slot (take (a + 1) parts) (counts ++ r.keys.row_count ∷ []) (columns ++ o ∷ [])
      looks parts t so =
          let at = part-at rs parts a r (parts-told rs parts read t) is in
          let own : at.p.row_count ≡ r.keys.row_count = ap (λ (p : Part). p.row_count) at.of.is in
          record {
            short = so.short ++ at.p ∷ [];
            counted =
                map-append (λ (p : Part). p.row_count) so.short (at.p ∷ [])
                ∙ ap₂ (λ xs n. xs ++ n ∷ []) so.counted own;
            seen =
                zip-append (IsSeenAs slot) so.short (at.p ∷ []) columns (o ∷ []) so.seen
                (subst (λ t. IfSome t (λ p. IsSeenAs slot p o)) at.tells opened.column, tt);
            alike = one-behind slot parts so.short a so.alike at.p at.is;
          }

-- ---- the whole

rows-at : (counts : List ℕ) (columns : List (Option DynamicColumn)) (k : ℕ) (c : DynamicColumn)
    → AllZip HasRows counts columns → slice_get columns k ≡ Some (Some c)
    → row_count (dynamic_shape c) (value_count c) ≡ slice_index counts k
rows-at counts [] k c all e = absurd (some≢none (Some c) (sym e))
rows-at [] (o ∷ os) k c all e = absurd all
rows-at (n ∷ ns) (o ∷ os) zero c all e = subst (HasRows n) (same-some o (Some c) e) all.0
rows-at (n ∷ ns) (o ∷ os) (suc k) c all e = rows-at ns os k c all.1 e

seen-at : (slot : Slot) (parts : List Part) (columns : List (Option DynamicColumn)) (k : ℕ) (p : Part)
    → AllZip (IsSeenAs slot) parts columns → slice_get parts k ≡ Some p → IsSeenAs slot p (slice_index_or columns k None)
seen-at slot [] columns k p all e = absurd (some≢none p (sym e))
seen-at slot (q ∷ parts) [] k p all e = absurd all
seen-at slot (q ∷ parts) (o ∷ os) zero p all e = subst (λ p. IsSeenAs slot p o) (same-some q p e) all.0
seen-at slot (q ∷ parts) (o ∷ os) (suc k) p all e = seen-at slot parts os k p all.1 e

-- the columns stand for those of all readers
pub short-all : (slot : Slot) (rs : List SeenReader) (n : ℕ) (counts : List ℕ) (columns : List (Option DynamicColumn))
    → n ≡ length rs → AllByRecursion IsRead rs → IsShortSoFar slot rs n counts columns → IsShortOf slot rs counts columns
short-all slot rs n counts columns all read was = record {
  rows =
      was.rows ∙ ap sum (take_all n (counts_read rs) (omega (arith, all, length-counts rs)));
  have = record {
    segments = sym (zip-length HasRows counts columns was.fit);
    rows = λ k c e. rows-at counts columns k c was.fit e;
  };
  told = told-each rs (λ parts t. stands parts (parts-told rs parts read t) (at-told _ rs parts t was.told));
}
  where
    stands : (parts : List Part) → ArePartsOf rs parts → LookShort slot (take n parts) counts columns
        → StandShort slot parts counts columns
    stands parts are so =
        let long = zip-length _ rs parts are in
        let alike = subst (λ qs. LookAlike slot qs so.short) (take_all n parts (omega (arith, all, long))) so.alike in
        record {
          short = so.short;
          counted = so.counted;
          opened = record { each = λ k p e. seen-at slot so.short columns k p so.seen e };
          joined = λ required.
              subst (λ ns. joined_by (stack ns) required so.short slot ≡ joined_by (stack (row_counts parts)) required parts slot)
              so.counted (sym (alike-joined slot parts so.short alike required));
        }
