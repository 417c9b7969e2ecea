-- The documents of a query that names a column, by the open column of that name and type.
use Rattle.std.proofs.Common.{◌≡◌, ℕ, ◌&&◌, Bool, true, false, cond, List, [], ◌∷◌, find, length, nat_lt, Option, Some, None, option_map, Result, Ok, Err, IfOk, IsTrue, refl, sym, ap, ◌∙◌, subst}
use Rattle.std.specs.List.{AllByRecursion, list_any}
use Rattle.std.proofs.lemmas.Bool.{and_parts}
use Rattle.std.proofs.lemmas.Option.{same_Some}
use Rattle.col_model.specs.ColumnType.{ColumnType}
use Rattle.col_model.specs.ColumnType as types
use Rattle.col_model.specs.Lookup.{is_between, row_of}
use Rattle.col_model.specs.Table.{Column, Content, Table}
use Rattle.col_model.proofs.SharedTypes.{some≢none}
use Rattle.col_opened.specs.Opened.{HasRows}
use Rattle.col_program.specs.Queries.{End, num, addr, term, has, range, cell_of, is_kind, column_named, cells_in, has_between, holds}
use Rattle.col_query.specs.Sets.{IsSetOf}
use Rattle.col_query.specs.declared.doc_set.DocSet.{DocSet}
use Rattle.col_questions.specs.Steps.{is_end_of}

-- what holds of a result that is Ok
pub ok_then : {A E : Type 0} (P Q : A → Type 0) (r : Result A E) → ((x : A) → P x → Q x) → IfOk r P → IfOk r Q
ok_then P Q (Ok x) f h = f x h
ok_then P Q (Err e) f h = tt

-- a column that is found has as many rows as each has
pub found-rows : (n : ℕ) (test : Column → Bool) (cs : List Column) (content : Content) → AllByRecursion (HasRows n) cs
    → Some content ≡ option_map (λ (c : Column). c.content) (find test cs) → length content.rows ≡ n
found-rows n test [] content rows e = absurd (some≢none content e)
found-rows n test (c ∷ cs) content rows e = by (test c) (found-rows n test cs content rows.1) e
  where
    by : (b : Bool) → (Some content ≡ option_map (λ (c : Column). c.content) (find test cs) → length content.rows ≡ n)
        → Some content ≡ option_map (λ (c : Column). c.content) (cond b (Some c) (find test cs)) → length content.rows ≡ n
    by true behind e = ap (λ (x : Content). length x.rows) (same_Some content c.content e) ∙ rows.0
    by false behind e = behind e

-- the documents with a value of a column that is open
held-by : (o : Option Column) (n : ℕ) (content : Content) (s : DocSet) → Some content ≡ option_map (λ (c : Column). c.content) o
    → IsSetOf n (λ d. nat_lt 0 (length (row_of content d))) s → IsSetOf n (λ d. nat_lt 0 (length (cells_in o d))) s
held-by None n content s e is = absurd (some≢none content e)
held-by (Some c) n content s e is =
    subst (λ (x : Content). IsSetOf n (λ d. nat_lt 0 (length (row_of x d))) s) (same_Some content c.content e) is

pub has-open : (t : Table) (name : List ℕ) (kind : ColumnType) (n : ℕ) (content : Content) (s : DocSet) → t.row_count ≡ n
    → Some content ≡ option_map (λ (c : Column). c.content) (column_named name kind t.columns)
    → IsSetOf n (λ d. nat_lt 0 (length (row_of content d))) s → IsSetOf t.row_count (holds t (has name kind)) s
has-open t name kind n content s same e is =
    subst (λ m. IsSetOf m (holds t (has name kind)) s) (sym same) (held-by (column_named name kind t.columns) n content s e is)

-- where the column isn't open, none has
held-none : (o : Option Column) (n : ℕ) (s : DocSet) → None ≡ option_map (λ (c : Column). c.content) o
    → IsSetOf n (λ _. false) s → IsSetOf n (λ d. nat_lt 0 (length (cells_in o d))) s
held-none None n s e is = is
held-none (Some c) n s e is = absurd (some≢none c.content (sym e))

pub has-none : (t : Table) (name : List ℕ) (kind : ColumnType) (s : DocSet)
    → None ≡ option_map (λ (c : Column). c.content) (column_named name kind t.columns)
    → IsSetOf t.row_count (λ _. false) s → IsSetOf t.row_count (holds t (has name kind)) s
has-none t name kind s e is = held-none (column_named name kind t.columns) t.row_count s e is

-- a value of a type is of its kind
end-kind : (t : ColumnType) (e : End) → is_end_of t e ≡ true → is_kind t e ≡ true
end-kind types.i64 (num z) h = refl
end-kind types.u64 (num z) h = refl
end-kind types.bool (num z) h = refl
end-kind types.datetime (num z) h = refl
end-kind types.ip (addr n) h = refl
end-kind types.str (term s) h = refl
end-kind types.bytes (term s) h = refl
end-kind types.i64 (addr n) h = h
end-kind types.i64 (term s) h = h
end-kind types.u64 (addr n) h = h
end-kind types.u64 (term s) h = h
end-kind types.bool (addr n) h = h
end-kind types.bool (term s) h = h
end-kind types.datetime (addr n) h = h
end-kind types.datetime (term s) h = h
end-kind types.ip (num z) h = h
end-kind types.ip (term s) h = h
end-kind types.str (num z) h = h
end-kind types.str (addr n) h = h
end-kind types.bytes (num z) h = h
end-kind types.bytes (addr n) h = h

-- documents by tests of both ends that pass
kinds-pass : (a b : Bool) (n : ℕ) (test : ℕ → Bool) (s : DocSet) → a ≡ true → b ≡ true → IsSetOf n test s
    → IsSetOf n (λ d. a && b && test d) s
kinds-pass a b n test s p q is =
    subst (λ a. IsSetOf n (λ d. a && b && test d) s) (sym p) (subst (λ b. IsSetOf n (λ d. true && b && test d) s) (sym q) is)

-- the documents with a value of a range of a column that is open
between-by : (o : Option Column) (kind : ColumnType) (lo hi : End) (n : ℕ) (content : Content) (s : DocSet)
    → IsTrue (is_end_of kind lo && is_end_of kind hi) → Some content ≡ option_map (λ (c : Column). c.content) o
    → IsSetOf n (λ d. list_any (is_between (cell_of lo) (cell_of hi)) (row_of content d)) s
    → IsSetOf n (has_between o kind lo hi) s
between-by None kind lo hi n content s ends e is = absurd (some≢none content e)
between-by (Some c) kind lo hi n content s ends e is =
    let both = and_parts (is_end_of kind lo) (is_end_of kind hi) ends in
    kinds-pass (is_kind kind lo) (is_kind kind hi) n (λ d. list_any (is_between (cell_of lo) (cell_of hi)) (row_of c.content d)) s
    (end-kind kind lo both.0) (end-kind kind hi both.1)
    (subst (λ (x : Content). IsSetOf n (λ d. list_any (is_between (cell_of lo) (cell_of hi)) (row_of x d)) s)
    (same_Some content c.content e) is)

pub range-open : (t : Table) (name : List ℕ) (kind : ColumnType) (lo hi : End) (n : ℕ) (content : Content) (s : DocSet)
    → t.row_count ≡ n → IsTrue (is_end_of kind lo && is_end_of kind hi)
    → Some content ≡ option_map (λ (c : Column). c.content) (column_named name kind t.columns)
    → IsSetOf n (λ d. list_any (is_between (cell_of lo) (cell_of hi)) (row_of content d)) s
    → IsSetOf t.row_count (holds t (range name kind lo hi)) s
range-open t name kind lo hi n content s same ends e is =
    subst (λ m. IsSetOf m (holds t (range name kind lo hi)) s) (sym same)
    (between-by (column_named name kind t.columns) kind lo hi n content s ends e is)

-- where the column isn't open, none has
between-none : (o : Option Column) (kind : ColumnType) (lo hi : End) (n : ℕ) (s : DocSet)
    → IsTrue (is_end_of kind lo && is_end_of kind hi) → None ≡ option_map (λ (c : Column). c.content) o
    → IsSetOf n (λ _. false) s → IsSetOf n (has_between o kind lo hi) s
between-none None kind lo hi n s ends e is =
    let both = and_parts (is_end_of kind lo) (is_end_of kind hi) ends in
    kinds-pass (is_kind kind lo) (is_kind kind hi) n (λ _. false) s (end-kind kind lo both.0) (end-kind kind hi both.1) is
between-none (Some c) kind lo hi n s ends e is = absurd (some≢none c.content (sym e))

pub range-none : (t : Table) (name : List ℕ) (kind : ColumnType) (lo hi : End) (s : DocSet)
    → IsTrue (is_end_of kind lo && is_end_of kind hi)
    → None ≡ option_map (λ (c : Column). c.content) (column_named name kind t.columns)
    → IsSetOf t.row_count (λ _. false) s → IsSetOf t.row_count (holds t (range name kind lo hi)) s
range-none t name kind lo hi s ends e is = between-none (column_named name kind t.columns) kind lo hi t.row_count s ends e is
