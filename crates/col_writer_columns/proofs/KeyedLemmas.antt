-- Records beside keys that compare as their cells.
use Rattle.std.proofs.Common.{◌≡◌, ◌<◌, ◌≤◌, ℕ, ◌+◌, ◌^◌, List, [], ◌∷◌, length, map, get_or, Bool, true, false, cond, Option, Some, None, Result, Ok, refl, sym, ◌∙◌, ap, subst, arith, le-leb}
use Rattle.std.specs.Prelude.{pos, ◌+ℤ◌, int_le, nat_le, nat_lt, ◌==◌, ◌||◌, not, slice_get, filter, unwrap_or, ⊤}
use Rattle.std.specs.List.{list_any, zip, range_with_len}
use Rattle.std.specs.declared.cmp.Ordering.TheVariants.{Less}
use Rattle.std.specs.Ordering.{nat_cmp, is_gt, ordering_reverse}
use Rattle.std.specs.Cmp.{tied_itself}
use Rattle.std.specs.Cmp.Lexicographic.{slice_cmp}
use Rattle.std.proofs.lemmas.Bool.{and_parts}
use Rattle.std.proofs.lemmas.Bool.Decides.{nat_tests}
use Rattle.std.proofs.lemmas.Cmp.{nat_list_cmp_total}
use Rattle.std.proofs.lemmas.Int.{ints}
use Rattle.std.proofs.lemmas.List.{length-map}
use Rattle.std.proofs.lemmas.Option.{get_or_from_slice_get, slice_get_within, slice_get-get_or, unwrap_or-slice_get}
use Rattle.col_common.specs.declared.error.ColumnarError.{ColumnarError}
use Rattle.col_common.specs.Ascending.{is_ascending, are_below}
use Rattle.col_model.specs.ColumnType.{ColumnType}
use Rattle.col_model.specs.ColumnType as types
use Rattle.col_model.specs.Table.{Cell, number, text}
use Rattle.col_model.specs.Lookup.{is_at_most}
use Rattle.col_model.specs.Sorted.{sorted_items}
use Rattle.col_model.specs.SortOrder.{docs_by, first_cell, is_key_at_most}
use Rattle.col_model.specs.Written.{Record}
use Rattle.col_model.specs.Refusal.{◌>>=◌, refuse_if, doc_out_of_range}
use Rattle.col_writer_columns.specs.Answers.{Gives}
use Rattle.col_writer_rows.specs.Documents.{docs_of}
use Rattle.col_terms.specs.Building.{ordered, ordinals}
use Rattle.col_terms.specs.Laws.{TermsAreThoseGiven}
use Rattle.col_terms.proofs.SearchLemmas.{pairwise}
use Rattle.col_writer_columns.specs.Columns.{records_of}
use Rattle.col_writer_columns.specs.Numerical.{numerical_records}
use Rattle.col_writer_columns.specs.Texts.{texts_by_id, ids_of}
use Rattle.col_writer_columns.specs.Values.{stored_number, time_cell}
use Rattle.col_writer_columns.specs.Sorting.{sorted_docs, first_key, docs_by_keys, docs_after, number_key, number_keys, time_keys, text_keys}

-- the records and the keys have the same documents, and each key is one of its cell
pub AreKeyed : (Cell → ℕ → Type 0) → List Record → List (ℕ × ℕ) → Type 0
AreKeyed R [] [] = ⊤
AreKeyed R [] (p ∷ ps) = ⊥
AreKeyed R (r ∷ rs) [] = ⊥
AreKeyed R (r ∷ rs) (p ∷ ps) = (r.doc ≡ p.0) × R r.cell p.1 × AreKeyed R rs ps

-- keys above 0, which compare as their cells
pub record CompareAlike (R : Cell → ℕ → Type 0) : Type 0 where
  pub above : (a : Cell) (k : ℕ) → R a k → 0 < k
  pub compares : (a b : Cell) (k l : ℕ) → R a k → R b l → is_at_most a b ≡ nat_le k l

-- a first cell and a first key: neither, or a cell with its key
IsFirst : (Cell → ℕ → Type 0) → Option Cell → ℕ → Type 0
IsFirst R None k = k ≡ 0
IsFirst R (Some a) k = R a k

firsts : (R : Cell → ℕ → Type 0) (rs : List Record) (ps : List (ℕ × ℕ)) (d : ℕ) → AreKeyed R rs ps
    → IsFirst R (first_cell rs d) (first_key ps d)
unfolding AreKeyed first_key IsFirst
firsts R [] [] d h = refl
firsts R [] (p ∷ ps) d h = absurd h
firsts R (r ∷ rs) [] d h = absurd h
firsts R (r ∷ rs) (p ∷ ps) d h = by (p.0 == d) (ap (λ x. x == d) h.0) h.1 (firsts R rs ps d h.2)
  where
    cell : List Record → Option Cell
    cell qs = slice_get (map (λ q. q.cell) qs) 0

    key : List (ℕ × ℕ) → ℕ
    key qs = unwrap_or (slice_get (map (λ (q : ℕ × ℕ). q.1) qs) 0) 0

    by : (b : Bool) → (r.doc == d) ≡ b → R r.cell p.1 → IsFirst R (cell (filter (λ q. q.doc == d) rs)) (key (filter (λ q. q.0 == d) ps)) →
        IsFirst R (cell (cond (r.doc == d) (r ∷ filter (λ q. q.doc == d) rs) (filter (λ q. q.doc == d) rs)))
        (key (cond b (p ∷ filter (λ q. q.0 == d) ps) (filter (λ q. q.0 == d) ps)))
    by true e one rest =
        subst (λ c. IsFirst R (cell (cond c (r ∷ filter (λ q. q.doc == d) rs) (filter (λ q. q.doc == d) rs))) p.1)
        (sym e) one
    by false e one rest =
        subst (λ c. IsFirst R (cell (cond c (r ∷ filter (λ q. q.doc == d) rs) (filter (λ q. q.doc == d) rs)))
        (key (filter (λ q. q.0 == d) ps))) (sym e) rest

both-firsts : (R : Cell → ℕ → Type 0) → CompareAlike R → (a b : Option Cell) (k l : ℕ) → IsFirst R a k
    → IsFirst R b l → is_key_at_most a b ≡ nat_le k l
unfolding IsFirst
both-firsts R laws None b k l h g = let low : k ≤ l = omega (arith, h) in sym (le-leb _ _ low)
both-firsts R laws (Some a) None k l h g =
    let up : 0 < k = laws.above a k h in
    let less : l < k = omega (arith, up, g) in
    let none : nat_le k l ≡ false = grind arith in sym none
both-firsts R laws (Some a) (Some b) k l h g = laws.compares a b k l h g

compare-firsts : (R : Cell → ℕ → Type 0) → CompareAlike R → (rs : List Record) (ps : List (ℕ × ℕ))
    → AreKeyed R rs ps → (a b : ℕ)
    → is_key_at_most (first_cell rs a) (first_cell rs b) ≡ nat_le (first_key ps a) (first_key ps b)
compare-firsts R laws rs ps h a b =
    both-firsts R laws (first_cell rs a) (first_cell rs b) (first_key ps a) (first_key ps b) (firsts R rs ps a h)
    (firsts R rs ps b h)

-- documents by cells are those by keys
docs-keyed : (R : Cell → ℕ → Type 0) → CompareAlike R
    → (reversed : Bool) (rs : List Record) (ps : List (ℕ × ℕ)) (n : ℕ) → AreKeyed R rs ps
    → docs_by reversed rs n ≡ docs_by_keys reversed ps n
docs-keyed R laws true rs ps n h = λ i. sorted_items (λ a b. compare-firsts R laws rs ps h b a i) (range_with_len 0 n)
docs-keyed R laws false rs ps n h = λ i. sorted_items (λ a b. compare-firsts R laws rs ps h a b i) (range_with_len 0 n)

past-keyed : (R : Cell → ℕ → Type 0) (rs : List Record) (ps : List (ℕ × ℕ)) (n : ℕ) → AreKeyed R rs ps
    → list_any (λ r. nat_le n r.doc) rs ≡ list_any (λ p. nat_le n p.0) ps
unfolding AreKeyed
past-keyed R [] [] n h = refl
past-keyed R [] (p ∷ ps) n h = absurd h
past-keyed R (r ∷ rs) [] n h = absurd h
past-keyed R (r ∷ rs) (p ∷ ps) n h = λ i. nat_le n (h.0 i) || past-keyed R rs ps n h.2 i

pub sorted-keyed : (R : Cell → ℕ → Type 0) → CompareAlike R
    → (rs : List Record) (ps : List (ℕ × ℕ)) (n : ℕ) (reversed : Bool) → AreKeyed R rs ps
    → sorted_docs rs n reversed ≡ docs_after ps n reversed
sorted-keyed R laws rs ps n reversed h =
    λ i. refuse_if (past-keyed R rs ps n h i) doc_out_of_range >>= λ _. Ok (docs-keyed R laws reversed rs ps n h i)

-- what is given of keys is given of the records
pub gives-keyed : {V : Type 0} (view : V → List ℕ) (result : Result V ColumnarError) (R : Cell → ℕ → Type 0)
    → CompareAlike R → (rs : List Record) (ps : List (ℕ × ℕ)) (n : ℕ) (reversed : Bool) → AreKeyed R rs ps
    → Gives view result (docs_after ps n reversed) → Gives view result (sorted_docs rs n reversed)
gives-keyed view result R laws rs ps n reversed h g = subst (Gives view result) (sym (sorted-keyed R laws rs ps n reversed h)) g

-- ---- numbers

-- a number with the key that is how far it is above the least i64, from 1 on
pub IsNumberKey : Cell → ℕ → Type 0
IsNumberKey (number z) k = (pos k ≡ z +ℤ pos (2 ^ 63 + 1)) × (0 < k)
IsNumberKey (text s) k = ⊥

number-above : (a : Cell) (k : ℕ) → IsNumberKey a k → 0 < k
unfolding IsNumberKey
number-above (number z) k h = h.1
number-above (text s) k h = absurd h

number-compares : (a b : Cell) (k l : ℕ) → IsNumberKey a k → IsNumberKey b l → is_at_most a b ≡ nat_le k l
unfolding IsNumberKey
number-compares (text s) b k l h g = absurd h
number-compares (number y) (text s) k l h g = absurd g
number-compares (number y) (number z) k l h g = by (nat_le k l) refl
  where
    by : (b : Bool) → nat_le k l ≡ b → int_le y z ≡ b
    by true e = let up : k ≤ l = grind arith in grind (arith, ints, nat_tests)
    by false e = let up : l < k = grind arith in grind (arith, ints, nat_tests)

pub number-laws : CompareAlike IsNumberKey
number-laws = record { above = number-above; compares = number-compares }

number-one : (t : ColumnType) (c : ℕ) → IsNumberKey (number (stored_number t c)) (number_key t c)
unfolding IsNumberKey
number-one types.u64 c = (omega (arith, ints), omega arith)
number-one types.i64 c = (omega (arith, ints), omega arith)
number-one types.bytes c = (omega (arith, ints), omega arith)
number-one types.str c = (omega (arith, ints), omega arith)
number-one types.bool c = (omega (arith, ints), omega arith)
number-one types.ip c = (omega (arith, ints), omega arith)
number-one types.datetime c = (omega (arith, ints), omega arith)

pub numbers-keyed : (ts : List ColumnType) (ps : List (ℕ × ℕ)) → length ts ≡ length ps
    → AreKeyed IsNumberKey (numerical_records ts ps) (zip (docs_of ps) (number_keys ts (map (λ p. p.1) ps)))
unfolding AreKeyed numerical_records number_keys
numbers-keyed [] [] e = tt
numbers-keyed [] (p ∷ ps) e = absurd (omega arith)
numbers-keyed (t ∷ ts) [] e = absurd (omega arith)
numbers-keyed (t ∷ ts) (p ∷ ps) e = (refl, number-one t p.1, numbers-keyed ts ps (omega arith))

-- points in time
pub times-keyed : (ps : List (ℕ × ℕ))
    → AreKeyed IsNumberKey (records_of types.datetime time_cell ps)
    (zip (docs_of ps) (time_keys (map (λ p. p.1) ps)))
unfolding AreKeyed records_of time_keys
times-keyed [] = tt
times-keyed (p ∷ ps) = (refl, number-one types.datetime p.1, times-keyed ps)

-- ---- texts

-- a text with the place of it among some terms, from 1 on
pub IsTextKey : List (List ℕ) → Cell → ℕ → Type 0
IsTextKey ts (number z) k = ⊥
IsTextKey ts (text s) k = (o : ℕ) × (slice_get ts o ≡ Some s) × (k ≡ o + 1)

text-above : (ts : List (List ℕ)) (a : Cell) (k : ℕ) → IsTextKey ts a k → 0 < k
unfolding IsTextKey
text-above ts (number z) k h = absurd h
text-above ts (text s) k h = omega (arith, h.2)

at_most-places : (ts : List (List ℕ)) → is_ascending ts ≡ true → (a b : List ℕ) (i j : ℕ) → slice_get ts i ≡ Some a
    → slice_get ts j ≡ Some b → is_at_most (text a) (text b) ≡ nat_le i j
at_most-places ts up a b i j f g = by (nat_lt i j) (nat_lt j i) refl refl
  where
    first : get_or ts i [] ≡ a
    first = get_or_from_slice_get ts i a [] f

    second : get_or ts j [] ≡ b
    second = get_or_from_slice_get ts j b [] g

    by : (u v : Bool) → nat_lt i j ≡ u → nat_lt j i ≡ v → not (is_gt (slice_cmp nat_cmp a b)) ≡ nat_le i j
    by true v e h =
        let less : i < j = grind arith in
        let cmp : slice_cmp nat_cmp a b ≡ Less = (λ k. slice_cmp nat_cmp (sym first k) (sym second k))
        ∙ pairwise ts i j up less (slice_get_within ts j b g) in
        let low : i ≤ j = omega arith in
        ap (λ o. not (is_gt o)) cmp ∙ sym (le-leb _ _ low)
    by false true e h =
        let less : j < i = grind arith in
        let cmp : slice_cmp nat_cmp b a ≡ Less = (λ k. slice_cmp nat_cmp (sym second k) (sym first k))
        ∙ pairwise ts j i up less (slice_get_within ts i a f) in
        let none : nat_le i j ≡ false = grind arith in
        ap (λ o. not (is_gt o)) (nat_list_cmp_total.antisymm a b ∙ ap ordering_reverse cmp) ∙ sym none
    by false false e h =
        let same : i ≡ j = grind arith in
        let one : a ≡ b = sym first ∙ ap (λ k. get_or ts k []) same ∙ second in
        let low : i ≤ j = omega (arith, same) in
        ap (λ c. not (is_gt (slice_cmp nat_cmp a c))) (sym one)
        ∙ ap (λ o. not (is_gt o)) (tied_itself nat_list_cmp_total a) ∙ sym (le-leb _ _ low)

text-compares : (ts : List (List ℕ)) → is_ascending ts ≡ true → (a b : Cell) (k l : ℕ) → IsTextKey ts a k
    → IsTextKey ts b l → is_at_most a b ≡ nat_le k l
unfolding IsTextKey
text-compares ts up (number z) b k l h g = absurd h
text-compares ts up (text a) (number z) k l h g = absurd g
text-compares ts up (text a) (text b) k l h g =
    at_most-places ts up a b h.0 g.0 h.1 g.1 ∙ more h.0 g.0 ∙ (λ i. nat_le (sym h.2 i) (sym g.2 i))
  where
    more : (i j : ℕ) → nat_le i j ≡ nat_le (i + 1) (j + 1)
    more i j = by (nat_le i j) refl
      where
        by : (b : Bool) → nat_le i j ≡ b → b ≡ nat_le (i + 1) (j + 1)
        by true e = let up : i + 1 ≤ j + 1 = grind arith in sym (le-leb _ _ up)
        by false e = grind arith

pub text-laws : (ts : List (List ℕ)) → is_ascending ts ≡ true → CompareAlike (IsTextKey ts)
text-laws ts up = record { above = text-above ts; compares = text-compares ts up }

-- each id has the place of its term
pub texts-keyed : (t : ColumnType) (terms : List (List ℕ)) (ps : List (ℕ × ℕ)) → TermsAreThoseGiven
    → are_below (length terms) (ids_of ps) ≡ true
    → AreKeyed (IsTextKey (ordered terms)) (records_of t text (texts_by_id terms ps))
    (zip (docs_of ps) (text_keys (ordinals terms) (map (λ p. p.1) ps)))
unfolding AreKeyed records_of texts_by_id text_keys IsTextKey
texts-keyed t terms [] given known = tt
texts-keyed t terms (p ∷ ps) given known =
    let parts = and_parts (nat_lt p.1 (length terms)) (are_below (length terms) (ids_of ps)) known in
    let below : p.1 < length terms = grind arith in
    let place = given.places terms p.1 below in
    let within : slice_get (ordinals terms) p.1 ≡ Some (get_or (ordinals terms) p.1 0) =
    slice_get-get_or (ordinals terms) p.1 0 (omega (arith, below, given.count terms)) in
    let own : slice_get terms p.1 ≡ Some (unwrap_or (slice_get terms p.1) []) =
    slice_get-get_or terms p.1 [] below ∙ ap Some (sym (unwrap_or-slice_get terms p.1 [])) in
    (refl, (get_or (ordinals terms) p.1 0, place ∙ own, ap (λ o. unwrap_or o 0 + 1) within), texts-keyed t terms ps given parts.1)

-- ---- columns

-- as many documents as keys
pub many-keys : (ps : List (ℕ × ℕ)) (docs codes keys : List ℕ) → docs ≡ docs_of ps → codes ≡ map (λ p. p.1) ps
    → length keys ≡ length codes → length docs ≡ length keys
many-keys ps docs codes keys ds cs e =
    ap length ds ∙ length-map ps (λ (p : ℕ × ℕ). p.0) ∙ sym (length-map ps (λ (p : ℕ × ℕ). p.1)) ∙ sym (ap length cs) ∙ sym e

-- documents ordered by the keys of their numbers are those ordered by their cells
pub gives-numbers : {V : Type 0} (view : V → List ℕ) (result : Result V ColumnarError) (ts : List ColumnType)
    (ps : List (ℕ × ℕ)) (docs codes keys : List ℕ) (rs : List Record) (n : ℕ) (reversed : Bool)
    → length ts ≡ length ps → numerical_records ts ps ≡ rs → docs ≡ docs_of ps → codes ≡ map (λ p. p.1) ps
    → keys ≡ number_keys ts codes → Gives view result (docs_after (zip docs keys) n reversed)
    → Gives view result (sorted_docs rs n reversed)
gives-numbers view result ts ps docs codes keys rs n reversed many is ds cs ks g =
    subst (λ r. Gives view result (sorted_docs r n reversed)) is
    (gives-keyed view result IsNumberKey number-laws (numerical_records ts ps)
    (zip (docs_of ps) (number_keys ts (map (λ p. p.1) ps))) n reversed (numbers-keyed ts ps many)
    (subst (λ z. Gives view result (docs_after z n reversed)) (λ i. zip (ds i) ((ks ∙ ap (number_keys ts) cs) i)) g))

-- documents ordered by the keys of their points in time are those ordered by their cells
pub gives-times : {V : Type 0} (view : V → List ℕ) (result : Result V ColumnarError) (ps : List (ℕ × ℕ))
    (docs codes keys : List ℕ) (n : ℕ) (reversed : Bool) → docs ≡ docs_of ps → codes ≡ map (λ p. p.1) ps
    → keys ≡ time_keys codes → Gives view result (docs_after (zip docs keys) n reversed)
    → Gives view result (sorted_docs (records_of types.datetime time_cell ps) n reversed)
gives-times view result ps docs codes keys n reversed ds cs ks g =
    gives-keyed view result IsNumberKey number-laws (records_of types.datetime time_cell ps)
    (zip (docs_of ps) (time_keys (map (λ p. p.1) ps))) n reversed (times-keyed ps)
    (subst (λ z. Gives view result (docs_after z n reversed)) (λ i. zip (ds i) ((ks ∙ ap time_keys cs) i)) g)

-- documents ordered by the keys of their texts' ordinals are those ordered by their cells
pub gives-texts : {V : Type 0} (view : V → List ℕ) (result : Result V ColumnarError) (t : ColumnType)
    (terms : List (List ℕ)) (ps : List (ℕ × ℕ)) (docs ids keys ords : List ℕ) (now : List (ℕ × List ℕ)) (n : ℕ)
    (reversed : Bool) → TermsAreThoseGiven → are_below (length terms) (ids_of ps) ≡ true
    → texts_by_id terms ps ≡ now → docs ≡ docs_of ps → ids ≡ map (λ p. p.1) ps → ords ≡ ordinals terms
    → keys ≡ text_keys ords ids → Gives view result (docs_after (zip docs keys) n reversed)
    → Gives view result (sorted_docs (records_of t text now) n reversed)
gives-texts view result t terms ps docs ids keys ords now n reversed given known is ds cs os ks g =
    subst (λ r. Gives view result (sorted_docs (records_of t text r) n reversed)) is
    (gives-keyed view result (IsTextKey (ordered terms)) (text-laws (ordered terms) (given.ascend terms))
    (records_of t text (texts_by_id terms ps)) (zip (docs_of ps) (text_keys (ordinals terms) (map (λ p. p.1) ps)))
    n reversed (texts-keyed t terms ps given known)
    (subst (λ z. Gives view result (docs_after z n reversed)) (λ i. zip (ds i) ((ks ∙ (λ j. text_keys (os j) (cs j))) i)) g))
