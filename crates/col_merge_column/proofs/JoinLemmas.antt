-- What calls leave that write a joined column.
use Rattle.std.proofs.Common.{◌≡◌, ◌⊎◌, inl, inr, ℕ, ◌<◌, ◌^◌, ◌-◌, not, Bool, true, false, List, [], ◌∷◌, ◌++◌, length, map, Option, Result, Ok, Err, Some, None, refl, sym, ap, ap₂, subst, ◌∙◌, arith}
use Rattle.std.specs.Prelude.{OnOk, ◌||◌, nat_le, filter_map}
use Rattle.std.specs.List.{AllByRecursion, cons_option}
use Rattle.std.proofs.lemmas.Bool.{true≢false, leb-true, leb-false}
use Rattle.std.proofs.lemmas.List.{map-id}
use Rattle.col_common.proofs.SerializingLemmas.{appends_none}
use Rattle.col_common.specs.Outside.{SeenSink}
use Rattle.col_common.specs.Serializing.{Serializes}
use Rattle.col_common.specs.declared.error.ColumnarError.{ColumnarError}
use Rattle.col_common.specs.declared.error.ColumnarError.TheVariants.{TooLarge, OutOfMemory, WriteFault}
use Rattle.col_common.proofs.OnOkLemmas.{on_ok-map}
use Rattle.col_column.specs.Columns.{IsCounted}
use Rattle.col_column.specs.Written.{Refused, SerializesRows, Stores64, StandForRows}
use Rattle.col_compact.specs.Covers.{IsTooLarge}
use Rattle.col_indexer.specs.Merged.{merged_counts}
use Rattle.col_indexer.specs.Spelling.{Index, index_shape}
use Rattle.col_model.specs.AddressList.{least_codes, values128}
use Rattle.col_model.specs.ColumnType as types
use Rattle.col_model.specs.Column.{column}
use Rattle.col_model.specs.ColumnType.{ColumnType}
use Rattle.col_model.specs.Index.{Shape}
use Rattle.col_model.specs.Limits.{is_too_large, has_many_codes, unsigned_number}
use Rattle.col_model.specs.U64List.{joined_lists, values64}
use Rattle.col_values.specs.Monotonic.{Passes}
use Rattle.col_model.specs.Table.{Cell, Content}
use Rattle.col_model.specs.Version.{current_version}
use Rattle.col_order.specs.Orders.{counts_of, picks_of}
use Rattle.col_types.specs.Cells.{unsigned_cell}
use Rattle.col_types.specs.Stored.{IsStoredAs}
use Rattle.col_model.proofs.StoredLaws.{addresses_stored}
use Rattle.col_merge_values.proofs.MergedCellLemmas.{merged-counts}
use Rattle.col_merge_values.proofs.MergedRowLemmas.{merged-rows, length-merged, picks-there}
use Rattle.col_merge_values.specs.Laws.{IsOrdered}
use Rattle.col_merge_values.specs.Merges.{Merge, IsMerge, merged_rows, merged_values, values_of}
use Rattle.std.proofs.lemmas.List.Elements.{filter_map-append}
use Rattle.col_merge_column.proofs.LimitLemmas.{too_large-is}
use Rattle.col_merge_column.proofs.NumberLemmas.{rows-joined, merged-stored}
use Rattle.col_merge_column.specs.Joins.{picked_content, JoinsColumn}
use Rattle.col_merge_column.specs.Limits.{is_past_limits, IsMergedWithin, HasNoCodes}

-- it was refused before the first byte
pub joins-refused : (a : SeenSink) (t : ColumnType) (n : ℕ) (content : Content) → is_too_large t content ≡ true
    → JoinsColumn a a (Err TooLarge) t n content
joins-refused a t n content large = record {
  bytes = [];
  again = tt;
  written = λ e. absurd (true≢false (sym large ∙ e));
  too_large = λ e. record {
    grown = ([], appends_none a);
    later = omega arith;
    write_fault = λ e. absurd (cc);
    refused = inl refl;
  };
  stopped = λ e codes. record { same = refl; refused = inl refl };
}

-- it is within the limits, and bytes were written that stand for it
pub joins-written : (old new : SeenSink) (result : Result (Unit {0}) ColumnarError) (t : ColumnType) (n : ℕ)
    (content : Content) (bytes : List ℕ) → is_too_large t content ≡ false → Serializes old new result bytes
    → OnOk result (column bytes t current_version n ≡ Some content) → JoinsColumn old new result t n content
joins-written old new result t n content bytes small written again = record {
  bytes = bytes;
  again = again;
  written = λ e. written;
  too_large = λ e. absurd (true≢false (sym e ∙ small));
  stopped = λ e codes. absurd (true≢false (sym e ∙ small));
}

-- ---- merged values behind their index

-- the index counts the picked values, which 32 bits count
pub record AreCounted {T : Type 0} (m : Merge T) (i : Index) : Type 0 where
  pub counted : IsCounted (index_shape i) (length (values_of m))
  pub few : length (values_of m) < 2 ^ 32

pub merged-counted : {T : Type 0} (m : Merge T) (i : Index) → IsMerge m → IsOrdered m
    → IsMergedWithin m.order m.columns.shapes i → AreCounted m i
merged-counted {T = T} m i is ordered within = record {
  counted = (merged-rows T m (index_shape i) (merged_counts m.order m.columns.shapes) is ordered (merged-counts m i within.merged)).counted;
  few = omega (arith, within.few, length-merged m.columns (counts_of m.order) is (picks_of m.order) (picks-there m.order ordered));
}

-- ---- whether a column is too large

-- a test whose opposite fails holds
pub not-false : (a : Bool) → false ≡ not a → a ≡ true
not-false true e = refl
not-false false e = absurd (true≢false (sym e))

-- a test whose opposite holds fails
pub not-true : (a : Bool) → true ≡ not a → a ≡ false
not-true true e = absurd (true≢false e)
not-true false e = refl

-- without an index it is
pub large-none : {T : Type 0} (t : ColumnType) (cell : T → Cell) (m : Merge T) → IsMerge m → IsOrdered m
    → false ≡ not (is_past_limits m.order m.columns.shapes) → is_too_large t (picked_content cell m) ≡ true
large-none t cell m is ordered e =
    too_large-is t cell m is ordered
    ∙ ap (λ b. b || false || has_many_codes t (picked_content cell m).rows) (not-false (is_past_limits m.order m.columns.shapes) e)

-- with one it is where its codes are too many
pub large-some : {T : Type 0} (t : ColumnType) (cell : T → Cell) (m : Merge T) → IsMerge m → IsOrdered m
    → true ≡ not (is_past_limits m.order m.columns.shapes)
    → is_too_large t (picked_content cell m) ≡ has_many_codes t (picked_content cell m).rows
large-some t cell m is ordered e =
    too_large-is t cell m is ordered
    ∙ ap (λ b. b || false || has_many_codes t (picked_content cell m).rows) (not-true (is_past_limits m.order m.columns.shapes) e)

-- ---- addresses

cells-again : (xs : List ℕ) → filter_map unsigned_number (map unsigned_cell xs) ≡ xs
cells-again [] = refl
cells-again (x ∷ xs) = ap (λ ys. x ∷ ys) (cells-again xs)

rows-again : (rows : List (List ℕ)) → filter_map unsigned_number (joined_lists (map (map unsigned_cell) rows)) ≡ joined_lists rows
rows-again [] = refl
rows-again (r ∷ rows) =
    filter_map-append unsigned_number (map unsigned_cell r) (joined_lists (map (map unsigned_cell) rows))
    ∙ ap₂ (λ a b. a ++ b) (cells-again r) (rows-again rows)

-- the codes that a column of addresses needs are those of the picked addresses
codes-picked : (m : Merge ℕ) → has_many_codes types.ip (picked_content unsigned_cell m).rows ≡ nat_le (2 ^ 32) (least_codes (values_of m))
unfolding merged_values
codes-picked m = ap (λ xs. nat_le (2 ^ 32) (least_codes xs)) (rows-again (merged_rows m.columns (picks_of m.order)))

all-numbers : (xss : List (List ℕ)) → AllByRecursion (λ xs. AllByRecursion (λ x. true ≡ true) xs) xss
all-numbers [] = tt
all-numbers (xs ∷ xss) = (go xs, all-numbers xss)
  where
    go : (ys : List ℕ) → AllByRecursion (λ x. true ≡ true) ys
    go [] = tt
    go (y ∷ ys) = (refl, go ys)

-- bytes that stand for the addresses' rows are a column of the picked rows
addresses-read : (m : Merge ℕ) (i : Index) → IsMerge m → IsOrdered m → IsMergedWithin m.order m.columns.shapes i
    → (result : Result (Unit {0}) ColumnarError) (old new : SeenSink)
    → SerializesRows old new result types.ip (index_shape i) (map (λ n. n) (values_of m))
    → is_too_large types.ip (picked_content unsigned_cell m) ≡ false
    → JoinsColumn old new result types.ip (length (picks_of m.order)) (picked_content unsigned_cell m)
addresses-read m i is ordered within result old new rows small =
    joins-written old new result types.ip (length (picks_of m.order)) (picked_content unsigned_cell m) rows.bytes small rows.written
    (on_ok-map result (rows-joined types.ip unsigned_cell (λ n. n) (λ n. n) (λ n. true) (λ n. true) values128
    addresses_stored (λ x h. refl) (λ x h. refl) m i is ordered within.merged (all-numbers m.columns.lists)
    rows.bytes) rows.again)

-- a call that was refused isn't Ok
not-ok : (P : Type 0) (result : Result (Unit {0}) ColumnarError)
    → (result ≡ Err TooLarge) ⊎ (result ≡ Err OutOfMemory) ⊎ (result ≡ Err WriteFault) → OnOk result P
not-ok P (Ok done) (inl e) = absurd (cc)
not-ok P (Ok done) (inr (inl e)) = absurd (cc)
not-ok P (Ok done) (inr (inr e)) = absurd (cc)
not-ok P (Err e) h = tt

-- addresses that are written, or need too many codes
pub addresses-joined : (m : Merge ℕ) (i : Index) → IsMerge m → IsOrdered m
    → IsMergedWithin m.order m.columns.shapes i → true ≡ not (is_past_limits m.order m.columns.shapes)
    → (result : Result (Unit {0}) ColumnarError) (old new : SeenSink)
    → (least_codes (map (λ n. n) (values_of m)) < 2 ^ 32 → length (values_of m) < 2 ^ 32
    → SerializesRows old new result types.ip (index_shape i) (map (λ n. n) (values_of m)))
    → (IsTooLarge (map (λ n. n) (values_of m)) (2 ^ 32 - 1) → Refused old new result TooLarge)
    → JoinsColumn old new result types.ip (length (picks_of m.order)) (picked_content unsigned_cell m)
addresses-joined m i is ordered within some result old new written refused =
    go (nat_le (2 ^ 32) (least_codes (values_of m))) refl
  where
    same : least_codes (map (λ n. n) (values_of m)) ≡ least_codes (values_of m)
    same = ap least_codes (map-id (values_of m))

    large : is_too_large types.ip (picked_content unsigned_cell m) ≡ nat_le (2 ^ 32) (least_codes (values_of m))
    large = large-some types.ip unsigned_cell m is ordered some ∙ codes-picked m

    go : (b : Bool) → nat_le (2 ^ 32) (least_codes (values_of m)) ≡ b
        → JoinsColumn old new result types.ip (length (picks_of m.order)) (picked_content unsigned_cell m)
    go true e =
        let many = refused (inl (let h = leb-true (2 ^ 32) (least_codes (values_of m)) e in let s = same in omega arith)) in
        record {
          bytes = [];
          again = not-ok _ result many.refused;
          written = λ f. absurd (true≢false (sym (large ∙ e) ∙ f));
          too_large = λ f. many;
          stopped = λ f codes. absurd (true≢false (sym e ∙ sym (codes-picked m) ∙ codes));
        }
    go false e =
        let few = (merged-counted m i is ordered within).few in
        addresses-read m i is ordered within result old new
        (written (let h = leb-false (2 ^ 32) (least_codes (values_of m)) e in let s = same in omega arith) few)
        (large ∙ e)

-- ---- numbers

-- numbers that are written
pub numbers-joined : {T : Type 0} (t : types.ColumnType) (cell : T → Cell) (code : T → ℕ) (value : ℕ → T)
    (is_code : ℕ → Bool) (in_type : T → Bool) → IsStoredAs values64 t cell value is_code
    → ((x : T) → Passes in_type x → Passes is_code (code x)) → ((x : T) → Passes in_type x → value (code x) ≡ x)
    → HasNoCodes t
    → (m : Merge T) (i : Index) → IsMerge m → IsOrdered m → IsMergedWithin m.order m.columns.shapes i
    → true ≡ not (is_past_limits m.order m.columns.shapes)
    → AllByRecursion (λ xs. AllByRecursion (Passes in_type) xs) m.columns.lists
    → (result : Result (Unit {0}) ColumnarError) (old new : SeenSink) (bytes : List ℕ)
    → Serializes old new result bytes
    → OnOk result (StandForRows bytes (index_shape i) (map code (values_of m)))
    → JoinsColumn old new result t (length (picks_of m.order)) (picked_content cell m)
numbers-joined t cell code value is_code in_type stored image undoes no_codes m i is ordered within some all result
    old new bytes written stand =
    let stores : Stores64 t (map code (values_of m)) =
    record {
      list = stored.numbers;
      images = merged-stored t cell code value is_code in_type values64 stored image undoes m all;
    } in
    joins-written old new result t (length (picks_of m.order)) (picked_content cell m) bytes
    (large-some t cell m is ordered some ∙ no_codes (picked_content cell m).rows) written
    (on_ok-map result (λ rows. rows-joined t cell code value is_code in_type values64 stored image undoes m i is
    ordered within.merged all bytes (rows t stores)) stand)

-- ---- the same of a view

-- the values of a view that is this merge
pub counted-seen : {T : Type 0} (v m : Merge T) (i : Index) → v ≡ m → IsMerge m → IsOrdered m
    → IsMergedWithin m.order m.columns.shapes i → AreCounted v i
counted-seen v m i e is ordered within = subst (λ w. AreCounted w i) (sym e) (merged-counted m i is ordered within)

-- merged addresses, written where their codes and count allow it, leave the column of the picked
-- rows
pub addresses-seen : (v m : Merge ℕ) (i : Index) → v ≡ m → IsMerge m → IsOrdered m
    → IsMergedWithin m.order m.columns.shapes i → true ≡ not (is_past_limits m.order m.columns.shapes)
    → (result : Result (Unit {0}) ColumnarError) (old new : SeenSink)
    → (least_codes (map (λ n. n) (values_of v)) < 2 ^ 32 → length (values_of v) < 2 ^ 32
    → SerializesRows old new result types.ip (index_shape i) (map (λ n. n) (values_of v)))
    → (IsTooLarge (map (λ n. n) (values_of v)) (2 ^ 32 - 1) → Refused old new result TooLarge)
    → JoinsColumn old new result types.ip (length (picks_of m.order)) (picked_content unsigned_cell m)
addresses-seen v m i e is ordered within some result old new =
    subst (λ w. (least_codes (map (λ n. n) (values_of w)) < 2 ^ 32 → length (values_of w) < 2 ^ 32
    → SerializesRows old new result types.ip (index_shape i) (map (λ n. n) (values_of w)))
    → (IsTooLarge (map (λ n. n) (values_of w)) (2 ^ 32 - 1) → Refused old new result TooLarge)
    → JoinsColumn old new result types.ip (length (picks_of m.order)) (picked_content unsigned_cell m))
    (sym e) (addresses-joined m i is ordered within some result old new)

-- bytes that stand for rows of some values stand for those of equal ones
pub stands-seen : {T : Type 0} (v m : Merge T) (code : T → ℕ) (s : Shape) (result : Result (Unit {0}) ColumnarError)
    (bytes : List ℕ → List ℕ) → v ≡ m
    → OnOk result (StandForRows (bytes (map code (values_of v))) s (map code (values_of v)))
    → OnOk result (StandForRows (bytes (map code (values_of m))) s (map code (values_of m)))
stands-seen v m code s result bytes e =
    subst (λ w. OnOk result (StandForRows (bytes (map code (values_of w))) s (map code (values_of w)))) e

-- bytes that are written of some values are those of equal ones
pub bytes-seen : {T : Type 0} (v m : Merge T) (code : T → ℕ) (result : Result (Unit {0}) ColumnarError)
    (old new : SeenSink) (bytes : List ℕ → List ℕ) → v ≡ m
    → Serializes old new result (bytes (map code (values_of v)))
    → Serializes old new result (bytes (map code (values_of m)))
bytes-seen v m code result old new bytes e = subst (λ w. Serializes old new result (bytes (map code (values_of w)))) e
