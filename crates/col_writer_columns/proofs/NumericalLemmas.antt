-- The records of a column of numbers, with one more.
use Rattle.std.proofs.Common.{◌≡◌, ◌⊎◌, ℕ, suc, ◌-◌, ◌^◌, List, [], ◌∷◌, ◌++◌, length, map, Bool, true, false, Option, Some, None, Result, Ok, Err, unwrap_or, refl, sym, ◌∙◌, ap, subst, arith, inl, inr}
use Rattle.std.specs.Prelude.{ℤ, pos, ◌&&◌, nat_lt, nat_le, int_le, int_lt, not, option_map, filter_map, ◌↔◌, MatchOption, ⊤}
use Rattle.std.specs.List.{list_all, last_or, zip, cons_option}
use Rattle.std.proofs.lemmas.List.Elements.{filter_map-append}
use Rattle.std.proofs.lemmas.List.Folds.{list_all-append}
use Rattle.std.proofs.lemmas.List.{length-map}
use Rattle.col_common.specs.declared.error.ColumnarError.{ColumnarError}
use Rattle.col_common.specs.declared.error.ColumnarError.TheVariants as answers
use Rattle.col_model.specs.ColumnType.{ColumnType, same_type}
use Rattle.col_model.specs.ColumnType as types
use Rattle.col_model.specs.Table.{Cell, number}
use Rattle.col_model.specs.NumericalType.{accepts_i64, accepts_u64}
use Rattle.col_model.specs.Written.{Record, Entry, recorded_number}
use Rattle.col_model.specs.Recording.{forces_other, is_late, accept_type, no_records}
use Rattle.col_model.specs.Refusal.{◌>>=◌, refuse_if, forced_type, doc_order, too_large}
use Rattle.col_writer_rows.specs.Documents.{is_late_doc, docs_of}
use Rattle.col_writer_columns.specs.Posted.{posted_after}
use Rattle.col_writer_columns.specs.Answers.{RecordsOrRefuses, Refuses}
use Rattle.col_types.specs.Kinds.{numerical_kind_of}
use Rattle.col_writer_columns.specs.Values.{stored_number}
use Rattle.col_types.specs.Numbers.{number_of}
use Rattle.col_writer_columns.specs.Values.{value_type}
use Rattle.col_writer_columns.specs.Numerical.{numerical_record, numerical_records, numerical_entry, IsSummary, HaveNumberTypes}
use Rattle.col_writer_columns.specs.Compatible.{forced_of, accepted_with}
use Rattle.col_writer_columns.specs.Entries.{recorded_entry}
use Rattle.col_types.specs.declared.numerical_type.NumericalType.{NumericalType}
use Rattle.col_types.specs.declared.numerical_type.NumericalType.TheVariants as kinds
use Rattle.col_types.specs.declared.numerical_value.NumericalValue.{NumericalValue}
use Rattle.col_types.specs.declared.numerical_value.NumericalValue.TheVariants.{I64, U64}
use Rattle.col_writer_columns.specs.declared.compatible_types.CompatibleNumericalTypes.{CompatibleNumericalTypes}
use Rattle.col_writer_columns.specs.declared.compatible_types.CompatibleNumericalTypes.TheVariants.{Dynamic, StaticType}
use Rattle.col_writer_columns.proofs.PostedLemmas.{zip-push}
use Rattle.col_writer_columns.proofs.TypeListLemmas.{map-push}

-- ---- lists

-- the last of a mapped list is the image of the last
pub last_or-map : {A B : Type 0} (f : A → B) (o : Option A) (xs : List A)
    → last_or (option_map f o) (map f xs) ≡ option_map f (last_or o xs)
last_or-map f o [] = refl
last_or-map f o (x ∷ xs) = last_or-map f (Some x) xs

length-zip : {A B : Type 0} (ks : List A) (vs : List B) → length ks ≡ length vs → length (zip ks vs) ≡ length vs
length-zip [] [] e = refl
length-zip [] (w ∷ vs) e = absurd (omega arith)
length-zip (l ∷ ks) [] e = absurd (omega arith)
length-zip (l ∷ ks) (w ∷ vs) e = let same : length ks ≡ length vs = omega arith in ap suc (length-zip ks vs same)

-- what is seen of the last item is the same through two functions
pub seen_last : {A B C : Type 0} (f : A → B) (g : A → C) (u : B → Bool) (v : C → Bool)
    → ((x : A) → u (f x) ≡ v (g x)) → (o : Option A)
    → unwrap_or (option_map u (option_map f o)) false ≡ unwrap_or (option_map v (option_map g o)) false
seen_last f g u v same None = refl
seen_last f g u v same (Some x) = same x

docs-zip : {A X : Type 0} (ts : List A) (ps : List (ℕ × X)) → length ts ≡ length ps
    → map (λ (z : A × (ℕ × X)). z.1.0) (zip ts ps) ≡ docs_of ps
docs-zip [] [] e = refl
docs-zip [] (p ∷ ps) e = absurd (omega arith)
docs-zip (t ∷ ts) [] e = absurd (omega arith)
docs-zip (t ∷ ts) (p ∷ ps) e = let same : length ts ≡ length ps = omega arith in ap (λ r. p.0 ∷ r) (docs-zip ts ps same)

-- ---- records

pub records-push : (ts : List ColumnType) (ps : List (ℕ × ℕ)) (t : ColumnType) (p : ℕ × ℕ) → length ts ≡ length ps
    → numerical_records (ts ++ t ∷ []) (ps ++ p ∷ []) ≡ numerical_records ts ps ++ numerical_record (t, p) ∷ []
unfolding numerical_records
records-push ts ps t p e = ap (map numerical_record) (zip-push ts ps t p e) ∙ map-push numerical_record (zip ts ps) (t, p)

pub records-none : numerical_records [] [] ≡ []
unfolding numerical_records
records-none = refl

-- there are as many records as numbers
pub records-length : (ts : List ColumnType) (ps : List (ℕ × ℕ)) → length ts ≡ length ps → length (numerical_records ts ps) ≡ length ps
unfolding numerical_records
records-length ts ps e = length-map (zip ts ps) numerical_record ∙ length-zip ts ps e

pub records-late : (ts : List ColumnType) (ps : List (ℕ × ℕ)) (d : ℕ) → length ts ≡ length ps
    → is_late (numerical_records ts ps) d ≡ is_late_doc (docs_of ps) d
unfolding numerical_records is_late_doc
records-late ts ps d e =
    let f : ColumnType × (ℕ × ℕ) → ℕ = λ z. z.1.0 in
    ap (λ o. unwrap_or (option_map (λ (r : Record). nat_lt d r.doc) o) false) (last_or-map numerical_record None (zip ts ps))
    ∙ seen_last numerical_record f (λ r. nat_lt d r.doc) (λ l. nat_lt d l) (λ z. refl) (last_or None (zip ts ps))
    ∙ ap (λ o. unwrap_or (option_map (λ l. nat_lt d l) o) false)
    (sym (last_or-map f None (zip ts ps)) ∙ ap (last_or None) (docs-zip ts ps e))

-- ---- types that hold the records

and_true : (b : Bool) → (b && true) ≡ b
and_true true = refl
and_true false = refl

one_more : (test : ColumnType × ℤ → Bool) (rs : List Record) (r : Record) (z : ColumnType × ℤ)
    → recorded_number r ≡ Some z
    → list_all test (filter_map recorded_number (rs ++ r ∷ []))
    ≡ (list_all test (filter_map recorded_number rs) && test z)
one_more test rs r z e =
    ap (list_all test) (filter_map-append recorded_number rs (r ∷ []) ∙ ap (λ o. filter_map recorded_number rs ++ cons_option o []) e)
    ∙ list_all-append test (filter_map recorded_number rs) (z ∷ [])
    ∙ ap (λ b. list_all test (filter_map recorded_number rs) && b) (and_true (test z))

same_types : (t : NumericalType) (v : NumericalValue) → not (same_type (numerical_kind_of t) (value_type v)) ≡ false
    → value_type v ≡ numerical_kind_of t
same_types kinds.I64 (I64 z) e = refl
same_types kinds.I64 (U64 n) e = cc
same_types kinds.U64 (I64 z) e = cc
same_types kinds.U64 (U64 n) e = refl

own_type : (t : NumericalType) (rs : List Record) (d : ℕ) (v : NumericalValue) → value_type v ≡ numerical_kind_of t
    → accept_type rs (numerical_kind_of t) ≡ true
    → accept_type (rs ++ record { doc = d; recorded_type = value_type v; cell = number (number_of v) } ∷ [])
    (numerical_kind_of t) ≡ true
own_type kinds.I64 rs d (I64 z) e h = one_more accepts_i64 rs _ (types.i64, z) refl ∙ ap (λ b. b && true) h
own_type kinds.I64 rs d (U64 n) e h = cc
own_type kinds.U64 rs d (I64 z) e h = cc
own_type kinds.U64 rs d (U64 n) e h = one_more accepts_u64 rs _ (types.u64, pos n) refl ∙ ap (λ b. b && true) h

-- one number more of a type that isn't forced away keeps what is told of the types that hold all
pub summary-push : (a : CompatibleNumericalTypes) (rs : List Record) (d : ℕ) (v : NumericalValue) → IsSummary a rs
    → forces_other (forced_of a) (value_type v) ≡ false
    → IsSummary (accepted_with a v)
    (rs ++ record { doc = d; recorded_type = value_type v; cell = number (number_of v) } ∷ [])
unfolding IsSummary
summary-push (Dynamic i u) rs d (I64 z) s free = (
  s.0 ∙ sym (one_more accepts_i64 rs _ (types.i64, z) refl ∙ and_true _),
  ap (λ b. b && int_le (pos 0) z) s.1 ∙ sym (one_more accepts_u64 rs _ (types.i64, z) refl),
)
summary-push (Dynamic i u) rs d (U64 n) s free = (
  ap (λ b. b && int_lt (pos n) (pos (2 ^ 63 - 1))) s.0 ∙ sym (one_more accepts_i64 rs _ (types.u64, pos n) refl),
  s.1 ∙ sym (one_more accepts_u64 rs _ (types.u64, pos n) refl ∙ and_true _),
)
summary-push (StaticType t) rs d v s free = own_type t rs d v (same_types t v free) s

pub forced-kept : (a : CompatibleNumericalTypes) (v : NumericalValue) → forced_of (accepted_with a v) ≡ forced_of a
forced-kept (Dynamic i u) (I64 z) = refl
forced-kept (Dynamic i u) (U64 n) = refl
forced-kept (StaticType t) v = refl

-- ---- an entry with one record more

pub entry-forced : (e : Entry) (d : ℕ) (t : ColumnType) (cell : Cell) → forces_other e.forced t ≡ true
    → recorded_entry e d t cell ≡ Err forced_type
unfolding recorded_entry
entry-forced e d t cell forced =
    ap (λ b. refuse_if b forced_type >>= λ _. refuse_if (is_late e.records d) doc_order >>= λ _. refuse_if
    (nat_le (2 ^ 32 - 1) (length e.records)) too_large >>=
    λ _. Ok (record e { records = e.records ++ record { doc = d; recorded_type = t; cell = cell } ∷ [] })) forced

-- the entry with the record
abbrev pub with_record : Entry → ℕ → ColumnType → Cell → Entry
with_record e d t cell = record e { records = e.records ++ record { doc = d; recorded_type = t; cell = cell } ∷ [] }

-- what follows of the values follows of the entry
pub entry-posted : {X : Type 0} (e : Entry) (d : ℕ) (t : ColumnType) (cell : Cell) (ps : List (ℕ × X)) (x : X)
    → forces_other e.forced t ≡ false → is_late e.records d ≡ is_late_doc (docs_of ps) d
    → length e.records ≡ length ps
    → recorded_entry e d t cell ≡ (posted_after ps d x >>= λ _. Ok (with_record e d t cell))
unfolding recorded_entry posted_after
entry-posted e d t cell ps x free late many =
    ap (λ b. refuse_if b forced_type >>= λ _. refuse_if (is_late e.records d) doc_order >>=
    λ _. refuse_if (nat_le (2 ^ 32 - 1) (length e.records)) too_large >>= λ _. Ok (with_record e d t cell)) free
    ∙ ap (λ b. refuse_if b doc_order >>=
    λ _. refuse_if (nat_le (2 ^ 32 - 1) (length e.records)) too_large >>= λ _. Ok (with_record e d t cell)) late
    ∙ ap (λ n. refuse_if (is_late_doc (docs_of ps) d) doc_order >>=
    λ _. refuse_if (nat_le (2 ^ 32 - 1) n) too_large >>= λ _. Ok (with_record e d t cell)) many
    ∙ joined (is_late_doc (docs_of ps) d) (nat_le (2 ^ 32 - 1) (length ps))
  where
    joined : (b c : Bool) →
        (refuse_if b doc_order >>= λ _. refuse_if c too_large >>= λ _. Ok (with_record e d t cell))
        ≡ ((refuse_if b doc_order >>= λ _. refuse_if c too_large >>= λ _. Ok (ps ++ (d, x) ∷ [])) >>=
        λ _. Ok (with_record e d t cell))
    joined true c = refl
    joined false true = refl
    joined false false = refl

-- the values after a call that refused nothing
pub posted-value : {X : Type 0} (ps qs : List (ℕ × X)) (d : ℕ) (x : X) → posted_after ps d x ≡ Ok qs → qs ≡ ps ++ (d, x) ∷ []
unfolding posted_after
posted-value ps qs d x e = by (is_late_doc (docs_of ps) d) (nat_le (2 ^ 32 - 1) (length ps)) e
  where
    by : (b c : Bool)
        → (refuse_if b doc_order >>= λ _. refuse_if c too_large >>= λ _. Ok (ps ++ (d, x) ∷ [])) ≡ Ok qs
        → qs ≡ ps ++ (d, x) ∷ []
    by true c e = cc
    by false true e = cc
    by false false e = cc

-- a refusal of the values is one of the entry, where both take one more in the same way
pub refused-entry : {X : Type 0} (e : Entry) (d : ℕ) (t : ColumnType) (cell : Cell) (ps : List (ℕ × X)) (x : X)
    (refusal : ColumnarError)
    → recorded_entry e d t cell ≡ (posted_after ps d x >>= λ _. Ok (with_record e d t cell))
    → (refusal ≡ answers.OutOfMemory) ⊎ Refuses (posted_after ps d x) refusal
    → (refusal ≡ answers.OutOfMemory) ⊎ Refuses (recorded_entry e d t cell) refusal
refused-entry e d t cell ps x refusal is (inl m) = inl m
refused-entry e d t cell ps x refusal is (inr (r, at, as_answer)) =
    inr (r, is ∙ ap (λ o. o >>= λ _. Ok (with_record e d t cell)) at, as_answer)

-- ---- the answers

-- a test is false where its truth would make an Ok a refusal
pub free_of : {A E : Type 0} (x : A) (e : E) (b : Bool) → (◌≡◌ {A = Result A E} (Ok x) (Err e) ↔ (b ≡ true)) → b ≡ false
free_of x e true h = let no : ◌≡◌ {A = Result _ _} (Ok x) (Err e) = h.1 refl in cc
free_of x e false h = refl

-- a record of another type than the forced one is refused, and changes nothing
pub forced-answers :
    (now : Entry) (d : ℕ) (t : ColumnType) (cell : Cell) (r : Result (Unit {0}) ColumnarError) (x : ColumnarError)
    → r ≡ Err x → x ≡ answers.ForcedType → forces_other now.forced t ≡ true
    → RecordsOrRefuses now now r (recorded_entry now d t cell)
forced-answers now d t cell r x is as_forced forced =
    let P : Result (Unit {0}) ColumnarError → Type 0 = λ o. RecordsOrRefuses now now o (recorded_entry now d t cell) in
    subst P (sym is) (record { ok = tt; refused = inr (forced_type, entry-forced now d t cell forced, as_forced); kept = refl })

-- the entry of the parts
pub record Parts (a : CompatibleNumericalTypes) (ts : List ColumnType) (ps : List (ℕ × ℕ)) (start : Option ℤ) (now : Entry) : Type 0 where
  pub is : numerical_entry a ts ps start ≡ now
  pub many : length ts ≡ length ps

pub parts-posted : (a : CompatibleNumericalTypes) (ts : List ColumnType) (ps : List (ℕ × ℕ)) (start : Option ℤ)
    (now : Entry) (d : ℕ) (t : ColumnType) (cell : Cell) (code : ℕ) → Parts a ts ps start now
    → forces_other (forced_of a) t ≡ false
    → recorded_entry now d t cell ≡ (posted_after ps d code >>= λ _. Ok (with_record now d t cell))
parts-posted a ts ps start now d t cell code h free =
    let records : now.records ≡ numerical_records ts ps = ap (λ e. e.records) (sym h.is) in
    let forced : now.forced ≡ forced_of a = ap (λ e. e.forced) (sym h.is) in
    entry-posted now d t cell ps code (ap (λ f. forces_other f t) forced ∙ free)
    (ap (λ r. is_late r d) records ∙ records-late ts ps d h.many)
    (ap length records ∙ records-length ts ps h.many)

-- a refusal of the values is one of the entry, which stays as it was
pub refused-answers : (a : CompatibleNumericalTypes) (ts ts' : List ColumnType) (ps ps' : List (ℕ × ℕ))
    (start : Option ℤ) (now : Entry) (d : ℕ) (t : ColumnType) (cell : Cell) (code : ℕ) (refusal : ColumnarError)
    → Parts a ts ps start now → forces_other (forced_of a) t ≡ false
    → RecordsOrRefuses ps ps' (Err refusal) (posted_after ps d code) → ts' ≡ ts
    → RecordsOrRefuses now (numerical_entry a ts' ps' start) (Err refusal) (recorded_entry now d t cell)
refused-answers a ts ts' ps ps' start now d t cell code refusal h free posted types_kept = record {
  ok = tt;
  refused = refused-entry now d t cell ps code refusal (parts-posted a ts ps start now d t cell code h free) posted.refused;
  kept = ap (λ r. numerical_entry a r ps' start) types_kept ∙ ap (λ r. numerical_entry a ts r start) posted.kept ∙ h.is;
}

-- the records with the number
pub records-with :
    (ts ts' : List ColumnType) (ps ps' : List (ℕ × ℕ)) (d : ℕ) (v : NumericalValue) (code : ℕ) (next : ColumnType)
    → length ts ≡ length ps → next ≡ value_type v → stored_number (value_type v) code ≡ number_of v
    → ts' ≡ ts ++ next ∷ [] → ps' ≡ ps ++ (d, code) ∷ []
    → numerical_records ts' ps'
    ≡ numerical_records ts ps ++ record { doc = d; recorded_type = value_type v; cell = number (number_of v) } ∷ []
records-with ts ts' ps ps' d v code next many same is_number more_types more =
    ap (λ r. numerical_records r ps') more_types ∙ ap (numerical_records (ts ++ next ∷ [])) more ∙ records-push ts ps next (d, code) many
    ∙ ap (λ t. numerical_records ts ps ++ record { doc = d; recorded_type = t; cell = number (stored_number t code) } ∷ []) same
    ∙ ap (λ z. numerical_records ts ps ++ record { doc = d; recorded_type = value_type v; cell = number z } ∷ []) is_number

-- a number that the values take, with its type, is recorded in the entry
pub recorded-answers : (a : CompatibleNumericalTypes) (ts ts' : List ColumnType) (ps ps' : List (ℕ × ℕ))
    (start : Option ℤ) (now : Entry) (d : ℕ) (v : NumericalValue) (code : ℕ) (next : ColumnType)
    (a' : CompatibleNumericalTypes) → Parts a ts ps start now → forces_other (forced_of a) (value_type v) ≡ false
    → next ≡ value_type v → stored_number (value_type v) code ≡ number_of v → ts' ≡ ts ++ next ∷ []
    → posted_after ps d code ≡ Ok ps' → a' ≡ accepted_with a v
    → RecordsOrRefuses now (numerical_entry a' ts' ps' start) (Ok tt)
    (recorded_entry now d (value_type v) (number (number_of v)))
recorded-answers a ts ts' ps ps' start now d v code next a' h free same is_number more_types posted accepted =
    let t = value_type v in
    let cell = number (number_of v) in
    let records : numerical_records ts' ps' ≡ now.records ++ record { doc = d; recorded_type = t; cell = cell } ∷ [] =
    records-with ts ts' ps ps' d v code next h.many same is_number more_types (posted-value ps ps' d code posted)
    ∙ ap (λ e. e.records ++ record { doc = d; recorded_type = t; cell = cell } ∷ []) h.is in
    let forced : forced_of a' ≡ now.forced = ap forced_of accepted ∙ forced-kept a v ∙ ap (λ e. e.forced) h.is in
    let made : numerical_entry a' ts' ps' start ≡ with_record now d t cell =
    λ i. record { records = records i; forced = forced i; sorts = (h.is i).sorts; tie_start = (h.is i).tie_start } in
    record {
      ok = parts-posted a ts ps start now d t cell code h free
          ∙ ap (λ o. o >>= λ _. Ok (with_record now d t cell)) posted ∙ ap Ok (sym made);
      refused = tt;
      kept = tt;
    }

dynamic : (rs : List Record) → rs ≡ [] → IsSummary (Dynamic true true) rs
unfolding IsSummary
dynamic rs none = (sym (ap (λ r. accept_type r types.i64) none), sym (ap (λ r. accept_type r types.u64) none))

-- a column without numbers
pub new-parts : (a : CompatibleNumericalTypes) (ts : List ColumnType) (ps : List (ℕ × ℕ)) → a ≡ Dynamic true true
    → ts ≡ [] → ps ≡ [] → (numerical_entry a ts ps None ≡ no_records) × HaveNumberTypes a ts ps None
new-parts a ts ps is e f =
    let none : numerical_records ts ps ≡ [] = ap (λ r. numerical_records r ps) e ∙ ap (numerical_records []) f ∙ records-none in
    let P : CompatibleNumericalTypes → Type 0 = λ b. IsSummary b (numerical_records ts ps) in (
      λ i. record { records = none i; forced = forced_of (is i); sorts = false; tie_start = None },
      record { many = ap length e ∙ sym (ap length f); summary = subst P (sym is) (dynamic (numerical_records ts ps) none); tied = tt },
    )

-- the documents of records
pub docs-records : (ts : List ColumnType) (ps : List (ℕ × ℕ)) → length ts ≡ length ps
    → map (λ r. r.doc) (numerical_records ts ps) ≡ docs_of ps
unfolding numerical_records
docs-records [] [] e = refl
docs-records [] (p ∷ ps) e = absurd (omega arith)
docs-records (t ∷ ts) [] e = absurd (omega arith)
docs-records (t ∷ ts) (p ∷ ps) e = let same : length ts ≡ length ps = omega arith in ap (λ r. p.0 ∷ r) (docs-records ts ps same)

-- one number more keeps what is tied
pub still-tied : (start : Option ℤ) (a b : CompatibleNumericalTypes) (v : NumericalValue)
    → MatchOption start ⊤ (λ _. a ≡ StaticType kinds.I64) → b ≡ accepted_with a v
    → MatchOption start ⊤ (λ _. b ≡ StaticType kinds.I64)
still-tied None a b v tied e = tt
still-tied (Some z) a b v tied e = e ∙ ap (λ c. accepted_with c v) tied
