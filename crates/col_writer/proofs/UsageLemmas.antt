-- How many bytes the records of columns have.
use Rattle.std.proofs.Common.{◌≡◌, ◌<◌, ℕ, ◌+◌, ◌*◌, ◌^◌, List, [], ◌∷◌, ◌++◌, length, map, true, false, cond, Some, None, refl, sym, ◌∙◌, ap, arith, string_bytes}
use Rattle.std.specs.Prelude.{sum_by, filter_map, String}
use Rattle.std.specs.declared.alloc.Global.{Global}
use Rattle.std.specs.declared.cmp.Ordering.{Ordering}
use Rattle.std.specs.declared.cmp.Ordering.TheVariants.{Less, Equal, Greater}
use Rattle.std.specs.Ordering.{is_eq, nat_cmp}
use Rattle.std.specs.Cmp.Lexicographic.{slice_cmp}
use Rattle.std.specs.FinMap.{put, find}
use Rattle.std.specs.FinMap.Entries.{by_order}
use Rattle.std.specs.List.{list_all, cons_option, IsDistinct, AllByRecursion}
use Rattle.std.proofs.lemmas.Bool.{and_parts}
use Rattle.std.proofs.Math.Nat.{suc-mul}
use Rattle.std.proofs.lemmas.List.Sums.{sum_by-cons, sum_by-append}
use Rattle.col_model.specs.ColumnType.{ColumnType, is_numerical}
use Rattle.col_model.specs.ColumnType as types
use Rattle.col_model.specs.Sorted.{distinct_items}
use Rattle.col_model.specs.Table.{Cell, text}
use Rattle.col_model.specs.Category.{Category, Slot, slot_cmp, same_slot}
use Rattle.col_model.specs.Category as categories
use Rattle.col_model.specs.Written.{Record, Entry, Recorded, text_of}
use Rattle.col_writer_columns.specs.Numerical.{numerical_record, numerical_records, AreCodes}
use Rattle.col_writer_columns.specs.Columns.{records_of}
use Rattle.col_writer_file.proofs.NumberLemmas.{codes-textless}
use Rattle.col_writer_file.proofs.TextEntryLemmas.{texts-in}
use Rattle.col_writer.specs.Columns.{each_entry}
use Rattle.col_writer.specs.Contents.{WriterColumns, under, put_all, slotted, writer_content}
use Rattle.col_writer.specs.Usage.{value_bytes, record_bytes, records_bytes, entry_bytes, named_bytes, up_to_64_bits, mem_usage}
use Rattle.col_writer.proofs.ContentLemmas.{find-put_all}
use Rattle.col_writer.proofs.ListingLemmas.{HaveNames, slotted-once}

-- ---- records

-- numbers: twelve bytes each
one-number : (t : ColumnType) → is_numerical t ≡ true → 4 + value_bytes t ≡ 12
one-number types.i64 e = refl
one-number types.u64 e = refl
one-number types.bytes e = cc
one-number types.str e = cc
one-number types.bool e = cc
one-number types.ip e = cc
one-number types.datetime e = cc

numbers-sum : (ts : List ColumnType) (ps : List (ℕ × ℕ)) → length ts ≡ length ps → list_all is_numerical ts ≡ true
    → sum_by record_bytes (numerical_records ts ps) ≡ length ps * 12
unfolding numerical_records
numbers-sum [] [] e h = refl
numbers-sum [] (p ∷ ps) e h = absurd (omega arith)
numbers-sum (t ∷ ts) [] e h = absurd (omega arith)
numbers-sum (t ∷ ts) (p ∷ ps) e h =
    let parts = and_parts (is_numerical t) (list_all is_numerical ts) h in
    let rest = numbers-sum ts ps (omega arith) parts.1 in
    omega (arith, sum_by-cons record_bytes (numerical_record (t, p)) (numerical_records ts ps), one-number t parts.0, rest)

-- records of numbers take twelve bytes each
pub numbers-bytes : (records : List Record) (ps : List (ℕ × ℕ)) → AreCodes records ps → records_bytes records ≡ length ps * 12
unfolding records_bytes
numbers-bytes records ps h =
    let own : sum_by record_bytes records ≡ length ps * 12 = ap (sum_by record_bytes) h.are ∙ numbers-sum h.kinds ps h.many h.numerical in
    (λ i. own i + sum_by length (codes-textless records ps h i)) ∙ omega arith

-- records of one type
records-sum : {X : Type 0} (t : ColumnType) (cell : X → Cell) (k : ℕ) (ps : List (ℕ × X)) → 4 + value_bytes t ≡ k
    → sum_by record_bytes (records_of t cell ps) ≡ length ps * k
unfolding records_of
records-sum t cell k [] is = omega arith
records-sum t cell k (p ∷ ps) is =
    let rest = records-sum t cell k ps is in
    omega (
      arith,
      sum_by-cons record_bytes (record { doc = p.0; recorded_type = t; cell = cell p.1 }) (records_of t cell ps),
      rest,
      suc-mul (length ps) k,
    )

-- records of texts take eight bytes each, and those of the differing texts
pub texts-bytes : (t : ColumnType) (ps : List (ℕ × List ℕ)) → 4 + value_bytes t ≡ 8
    → records_bytes (records_of t text ps)
    ≡ length ps * 8 + sum_by length (distinct_items (slice_cmp nat_cmp) (map (λ p. p.1) ps))
unfolding records_bytes
texts-bytes t ps is = λ i. records-sum t text 8 ps is i + sum_by length (distinct_items (slice_cmp nat_cmp) (texts-in t ps i))

no-texts-of : {X : Type 0} (t : ColumnType) (cell : X → Cell) (ps : List (ℕ × X))
    → ((x : X) → text_of (cell x) ≡ None) → filter_map text_of (map (λ r. r.cell) (records_of t cell ps)) ≡ []
unfolding records_of
no-texts-of t cell [] none = refl
no-texts-of t cell (p ∷ ps) none =
    ap (λ o. cons_option o (filter_map text_of (map (λ r. r.cell) (records_of t cell ps)))) (none p.1)
    ∙ no-texts-of t cell ps none

-- values that are no texts
pub plain-bytes : {X : Type 0} (t : ColumnType) (cell : X → Cell) (k : ℕ) (ps : List (ℕ × X))
    → ((x : X) → text_of (cell x) ≡ None) → 4 + value_bytes t ≡ k
    → records_bytes (records_of t cell ps) ≡ length ps * k
unfolding records_bytes distinct_items
plain-bytes t cell k ps none is =
    (λ i. records-sum t cell k ps is i + sum_by length (distinct_items (slice_cmp nat_cmp) (no-texts-of t cell ps none i))) ∙ omega arith

-- ---- columns

-- the entries of columns, by the bytes of each
pub named-sum : {X : Type 0} (c : Category) (f : X → Entry) (bytes : X → ℕ) (es : List (String Global × X))
    → ((x : X) → records_bytes (f x).records ≡ bytes x)
    → sum_by entry_bytes (under c (each_entry f es)) ≡ named_bytes bytes es
named-sum c f bytes [] h = refl
named-sum {X = X} c f bytes (e ∷ es) h =
    let rest = named-sum c f bytes es h in
    omega (
      arith,
      sum_by-cons entry_bytes (record { name = string_bytes e.0; category = c }, f e.1)
          (under c (each_entry f es)),
      sum_by-cons (λ (p : String Global × X). length (string_bytes p.0) + bytes p.1) e es,
      h e.1,
      rest,
    )

-- ---- the content

none-found : (s : Slot) (es : Recorded) → AllByRecursion (λ t. same_slot s t ≡ false) (map (λ p. p.0) es) → find slot_cmp s es ≡ None
none-found s [] h = refl
none-found s (e ∷ es) h = ap (λ b. cond b (Some e.1) (find slot_cmp s es)) h.0 ∙ none-found s es h.1

sum-put : (f : Slot × Entry → ℕ) (s : Slot) (e : Entry) (w : Recorded) → find slot_cmp s w ≡ None
    → sum_by f (put slot_cmp s e w) ≡ f (s, e) + sum_by f w
sum-put f s e [] h = sum_by-cons f (s, e) []
sum-put f s e (p ∷ w) h = by (slot_cmp s p.0) h (sum-put f s e w)
  where
    by : (o : Ordering) → cond (is_eq o) (Some p.1) (find slot_cmp s w) ≡ None
        → (find slot_cmp s w ≡ None → sum_by f (put slot_cmp s e w) ≡ f (s, e) + sum_by f w)
        → sum_by f (by_order o ((s, e) ∷ p ∷ w) ((p.0, e) ∷ w) (p ∷ put slot_cmp s e w))
        ≡ f (s, e) + sum_by f (p ∷ w)
    by Less h later = sum_by-cons f (s, e) (p ∷ w)
    by Equal h later = cc
    by Greater h later =
        let rest = later h in
        let a = sum_by-cons f p (put slot_cmp s e w) in
        let b = sum_by-cons f p w in
        omega (arith, a, b, rest)

sum-put_all : (f : Slot × Entry → ℕ) (es : Recorded) → IsDistinct same_slot (map (λ p. p.0) es) → sum_by f (put_all es) ≡ sum_by f es
unfolding put_all IsDistinct
sum-put_all f [] h = refl
sum-put_all f (e ∷ es) h =
    sum-put f e.0 e.1 (put_all es) (find-put_all e.0 es ∙ none-found e.0 es h.0)
    ∙ ap (λ n. f e + n) (sum-put_all f es h.1) ∙ sym (sum_by-cons f e es)

-- the content has the bytes of its categories
pub content-sum : (m : WriterColumns) (w : Recorded) → HaveNames m → writer_content m ≡ w
    → sum_by entry_bytes w
    ≡ sum_by entry_bytes (under categories.numerical m.numerical)
    + sum_by entry_bytes (under categories.bytes m.bytes) + sum_by entry_bytes (under categories.str m.str)
    + sum_by entry_bytes (under categories.bool m.bool) + sum_by entry_bytes (under categories.ip m.ip)
    + sum_by entry_bytes (under categories.datetime m.datetime)
unfolding writer_content slotted
content-sum m w names is = ap (sum_by entry_bytes) (sym is) ∙ sum-put_all entry_bytes (slotted m) (slotted-once m names)
    ∙ six (under categories.numerical m.numerical) (under categories.bytes m.bytes) (under categories.str m.str)
    (under categories.bool m.bool) (under categories.ip m.ip) (under categories.datetime m.datetime)
  where
    six : (a b c d e f : Recorded)
        → sum_by entry_bytes (a ++ (b ++ (c ++ (d ++ (e ++ f)))))
        ≡ sum_by entry_bytes a + sum_by entry_bytes b + sum_by entry_bytes c + sum_by entry_bytes d
        + sum_by entry_bytes e + sum_by entry_bytes f
    six a b c d e f =
        let p = sum_by-append entry_bytes a (b ++ (c ++ (d ++ (e ++ f)))) in
        let q = sum_by-append entry_bytes b (c ++ (d ++ (e ++ f))) in
        let r = sum_by-append entry_bytes c (d ++ (e ++ f)) in
        let s = sum_by-append entry_bytes d (e ++ f) in
        let t = sum_by-append entry_bytes e f in
        omega (arith, p, q, r, s, t)

-- ---- sums as far as 64 bits count

-- the bytes so far and those that are left are all, as far as 64 bits count
pub record AreCounted (bytes left all : ℕ) : Type 0 where
  pub fits : bytes < 2 ^ 64
  pub same : up_to_64_bits (bytes + left) ≡ up_to_64_bits all

-- where nothing is left to count, the bytes are all, as far as 64 bits count
pub all-counted : (bytes left all : ℕ) → AreCounted bytes left all → left ≡ 0 → bytes ≡ up_to_64_bits all
all-counted bytes left all h none = omega arith

-- a column more is counted
pub counted-next : {X : Type 0} (bytes : X → ℕ) (e : String Global × X) (left rest : List (String Global × X))
    (before len own between after all : ℕ) → left ≡ e ∷ rest → AreCounted before (named_bytes bytes left) all
    → len ≡ length (string_bytes e.0) → own ≡ up_to_64_bits (bytes e.1) → between ≡ up_to_64_bits (before + len)
    → after ≡ up_to_64_bits (between + own) → AreCounted after (named_bytes bytes rest) all
counted-next {X} bytes e left rest before len own between after all is h name column first then =
    let sum : named_bytes bytes left ≡ length (string_bytes e.0) + bytes e.1 + named_bytes bytes rest = ap (named_bytes bytes) is
    ∙ sum_by-cons (λ (p : String Global × X). length (string_bytes p.0) + bytes p.1) e rest in
    record { fits = omega arith; same = omega (arith, h.same) }

counted-sum : (x y a b r : ℕ) → a ≡ up_to_64_bits x → b ≡ up_to_64_bits y → r ≡ up_to_64_bits (a + b) → r ≡ up_to_64_bits (x + y)
counted-sum x y a b r p q e = omega arith

-- a sum of the categories is that of the content
pub usage-is : (m : WriterColumns) (now : Recorded) (a b c d e f p q r s t : ℕ) → HaveNames m → writer_content m ≡ now
    → a ≡ up_to_64_bits (sum_by entry_bytes (under categories.numerical m.numerical))
    → b ≡ up_to_64_bits (sum_by entry_bytes (under categories.bytes m.bytes))
    → c ≡ up_to_64_bits (sum_by entry_bytes (under categories.str m.str))
    → d ≡ up_to_64_bits (sum_by entry_bytes (under categories.bool m.bool))
    → e ≡ up_to_64_bits (sum_by entry_bytes (under categories.ip m.ip))
    → f ≡ up_to_64_bits (sum_by entry_bytes (under categories.datetime m.datetime))
    → p ≡ up_to_64_bits (a + b) → q ≡ up_to_64_bits (p + c) → r ≡ up_to_64_bits (q + d) → s ≡ up_to_64_bits (r + e)
    → t ≡ up_to_64_bits (s + f) → t ≡ mem_usage now
usage-is m now a b c d e f p q r s t names is numerical bytes str bool ip datetime ab abc abcd abcde all =
    counted-sum _ _ s f t (counted-sum _ _ r e s
    (counted-sum _ _ q d r (counted-sum _ _ p c q (counted-sum _ _ a b p numerical bytes ab) str abc) bool abcd)
    ip abcde) datetime all
    ∙ ap up_to_64_bits (sym (content-sum m now names is))
