-- What refuses a compaction.
use Rattle.std.proofs.Common.{◌≡◌, ◌⊎◌, inl, inr, ◌<◌, ◌+◌, ◌^◌, ◌==◌, ◌&&◌, not, nat_lt, nat_le, ℕ, suc, Bool, true, false, cond, List, [], ◌∷◌, map, flat_map, filter_map, length, slice_get, Option, Some, None, option_map, unwrap_or, Result, Ok, Err, refl, sym, ap, ◌∙◌, subst, arith}
use Rattle.std.specs.Prelude.{if◌then◌else◌}
use Rattle.std.specs.List.{list_all, enumerate_from, AllByRecursion}
use Rattle.std.proofs.lemmas.Bool.{lt-ltb}
use Rattle.std.proofs.lemmas.List.Folds.{list_all-append}
use Rattle.col_model.specs.Category.{Slot}
use Rattle.col_model.specs.ColumnType.{ColumnType}
use Rattle.col_model.specs.File.{part_of_table}
use Rattle.col_model.specs.Limits.{is_too_large}
use Rattle.col_model.specs.Merge.{joined_column, joined_content, joined_type, kept_columns, shared_type, all_slots, row_counts, merged}
use Rattle.col_model.specs.Order.{Order, has_row, picks, shuffle}
use Rattle.col_model.specs.Refusal.{Refusal, ◌>>=◌, or_refuse, refuse_if, each_ok, bad_order, invalid_data, numerical_conflict, too_large}
use Rattle.col_model.specs.Table.{Column, Content, Table}
use Rattle.col_model.proofs.ConflictLaws.{BindErr, first_refused, then_refused, bind-err, each-err, ok_not_err, refused-by, same_Err}
use Rattle.col_model.proofs.SeenLaws.{not-zero}
use Rattle.col_model.proofs.StackSeen.{none-bad}
use Rattle.col_order.proofs.PickLemmas.{picks-shuffle}
use Rattle.col_segments.specs.Compaction.{HasItsRows, IsCompactRefusal, CompactsOrConflicts}
use Rattle.col_segments.specs.Live.{with_alive, addresses, merged_alive}
use Rattle.col_segments.specs.Segments.{HeldTable, all_alive}

-- ---- one slot

-- where no column is bad and none is required, a slot is refused by its numbers or its size
slot-refused : (order : Order) (picked : List (ℕ × ℕ)) (ts : List Table) (slot : Slot) (e : Refusal)
    → joined_column order picked (map part_of_table ts) [] slot ≡ Err e → IsCompactRefusal e
unfolding joined_column
slot-refused order picked ts slot e h =
    by (kept_columns slot picked (map part_of_table ts))
    (subst (λ b. (refuse_if b invalid_data >>= λ _. made (kept_columns slot picked (map part_of_table ts))) ≡ Err e) (none-bad slot ts) h)
  where
    content : List Column → Content
    content kept = joined_content order slot picked (map part_of_table ts) kept

    present : List Column → ColumnType → Result (Option Column) Refusal
    present kept t = Ok (Some (record { name = slot.name; column_type = t; content = content kept }))

    end_ : List Column → ColumnType → Result (Option Column) Refusal
    end_ kept t = refuse_if (is_too_large t (content kept)) too_large >>= λ _. present kept t

    made : List Column → Result (Option Column) Refusal
    made kept = if length kept == 0 then Ok None else (joined_type None kept >>= end_ kept)

    no_type : (kept : List Column) (o : Option ColumnType) → or_refuse o numerical_conflict ≡ Err e → IsCompactRefusal e
    no_type kept None h = inl (sym (same_Err numerical_conflict e h))
    no_type kept (Some t) h = absurd (ok_not_err t e h)

    large : (kept : List Column) (t : ColumnType) → (e ≡ too_large) ⊎ (present kept t ≡ Err e)
        → IsCompactRefusal e
    large kept t (inl is) = inr is
    large kept t (inr h) = absurd (ok_not_err _ e h)

    typed : (kept : List Column) → BindErr (joined_type None kept) (end_ kept) e → IsCompactRefusal e
    typed kept (first_refused h) = no_type kept (shared_type kept) h
    typed kept (then_refused t is h) = large kept t (refused-by (is_too_large t (content kept)) too_large e _ h)

    by : (kept : List Column) → made kept ≡ Err e → IsCompactRefusal e
    by [] h = absurd (ok_not_err None e h)
    by (c ∷ kept) h =
        typed (c ∷ kept) (bind-err (joined_type None (c ∷ kept)) (end_ (c ∷ kept)) e
        (subst (λ b. (if b then Ok None else (joined_type None (c ∷ kept) >>= end_ (c ∷ kept))) ≡ Err e) (not-zero (length kept)) h))

-- ---- the rows are there

abbrev counts_in : List HeldTable → List ℕ
counts_in hs = map (λ t. t.row_count) (map (λ h. h.table) hs)

-- the rows of one table
own-rows : (counts : List ℕ) (k n : ℕ) (rows : List ℕ) → slice_get counts k ≡ Some n → AllByRecursion (λ row. row < n) rows
    → list_all (has_row counts) (map (λ r. (k, r)) rows) ≡ true
own-rows counts k n [] at all = refl
own-rows counts k n (r ∷ rows) at all =
    ap (λ b. b && list_all (has_row counts) (map (λ r. (k, r)) rows))
    (ap (λ o. unwrap_or (option_map (λ n. nat_lt r n) o) false) at ∙ lt-ltb r n all.0)
    ∙ own-rows counts k n rows at all.1

-- the same of all, where the tables stand in a list from a place on
rows-there : (counts : List ℕ) (k : ℕ) (hs : List HeldTable) → ((i : ℕ) → slice_get counts (k + i) ≡ slice_get (counts_in hs) i)
    → AllByRecursion HasItsRows hs
    → list_all (has_row counts) (flat_map (λ p. map (λ r. (p.0, r)) p.1.alive) (enumerate_from k hs)) ≡ true
rows-there counts k [] same all = refl
rows-there counts k (h ∷ hs) same all =
    list_all-append (has_row counts) (map (λ r. (k, r)) h.alive) (flat_map (λ p. map (λ r. (p.0, r)) p.1.alive) (enumerate_from (k + 1) hs))
    ∙ (λ i. own-rows counts k h.table.row_count h.alive (ap (slice_get counts) (none_more k) ∙ same 0) all.0 i
    && rows-there counts (k + 1) hs (λ j. ap (slice_get counts) (one_more k j) ∙ same (suc j)) all.1 i)
  where
    none_more : (n : ℕ) → n ≡ n + 0
    none_more n = omega arith

    one_more : (n j : ℕ) → n + 1 + j ≡ n + suc j
    one_more n j = omega arith

-- what holds of all tables holds of those that have a row alive
kept-all : (hs : List HeldTable) → AllByRecursion HasItsRows hs → AllByRecursion HasItsRows (with_alive hs)
kept-all [] all = tt
kept-all (h ∷ hs) all = by (not (length h.alive == 0)) (kept-all hs all.1)
  where
    by : (b : Bool) → AllByRecursion HasItsRows (with_alive hs) → AllByRecursion HasItsRows (cond b (h ∷ with_alive hs) (with_alive hs))
    by true later = (all.0, later)
    by false later = later

-- ---- all slots

counts-same : (ts : List Table) → row_counts (map part_of_table ts) ≡ map (λ t. t.row_count) ts
counts-same [] = refl
counts-same (t ∷ ts) = ap (λ ns. t.row_count ∷ ns) (counts-same ts)

-- rows that are there are merged, or refused by the numbers or the size of a column
rows-refused : (ts : List Table) (named : List (ℕ × ℕ)) (e : Refusal) → list_all (has_row (map (λ t. t.row_count) ts)) named ≡ true
    → merged (map part_of_table ts) [] (shuffle (map (λ t. t.row_count) ts) named) ≡ Err e → IsCompactRefusal e
unfolding merged
rows-refused ts named e there h =
    counted (refused-by (nat_le (2 ^ 32) (length named)) too_large e (λ _. rest named)
    (subst (λ o. (or_refuse o bad_order >>= after) ≡ Err e)
    (ap (picks order) (counts-same ts) ∙ picks-shuffle (map (λ t. t.row_count) ts) named there) h))
  where
    order : Order
    order = shuffle (map (λ t. t.row_count) ts) named

    table : List (ℕ × ℕ) → List (Option Column) → Result Table Refusal
    table ps columns = Ok (record { row_count = length ps; columns = filter_map (λ c. c) columns })

    rest : List (ℕ × ℕ) → Result Table Refusal
    rest ps = each_ok (joined_column order ps (map part_of_table ts) []) (all_slots (map part_of_table ts) []) >>= table ps

    after : List (ℕ × ℕ) → Result Table Refusal
    after ps = refuse_if (nat_le (2 ^ 32) (length ps)) too_large >>= λ _. rest ps

    of_slots : BindErr (each_ok (joined_column order named (map part_of_table ts) []) (all_slots (map part_of_table ts) []))
        (table named) e → IsCompactRefusal e
    of_slots (first_refused s) =
        let one = each-err (joined_column order named (map part_of_table ts) []) (all_slots (map part_of_table ts) []) e s in
        slot-refused order named ts one.0 e one.1
    of_slots (then_refused columns s t) =
        absurd (ok_not_err (record { row_count = length named; columns = filter_map (λ c. c) columns }) e t)

    counted : (e ≡ too_large) ⊎ (rest named ≡ Err e) → IsCompactRefusal e
    counted (inl is) = inr is
    counted (inr s) =
        of_slots (bind-err (each_ok (joined_column order named (map part_of_table ts) []) (all_slots (map part_of_table ts) []))
        (table named) e s)

-- A compaction of tables that have their rows conflicts in its numbers, or is too large, or is made.
pub compacts-or-conflicts : (hs : List HeldTable) → AllByRecursion HasItsRows hs → CompactsOrConflicts hs
compacts-or-conflicts hs all r h = by (bind-err (merged_alive hs) (λ t. Ok (all_alive t ∷ [])) r h)
  where
    by : BindErr (merged_alive hs) (λ t. Ok (all_alive t ∷ [])) r → IsCompactRefusal r
    by (first_refused s) =
        let kept = with_alive hs in
        let there = rows-there (counts_in kept) 0 kept (λ i. ap (slice_get (counts_in kept)) (none_before i)) (kept-all hs all) in
        rows-refused (map (λ h. h.table) kept) (addresses kept) r there s
      where
        none_before : (n : ℕ) → 0 + n ≡ n
        none_before n = omega arith
    by (then_refused t s u) = absurd (ok_not_err (all_alive t ∷ []) r u)
