-- The columns of a table, one by one.
use Rattle.std.proofs.Common.{◌≡◌, ◌<◌, ◌⊎◌, ℕ, suc, List, [], ◌∷◌, ◌++◌, length, map, filter, take, drop, get_or, Bool, true, false, not, cond, Ok, Err, refl, sym, ap, ◌∙◌, arith, inl, inr}
use Rattle.std.proofs.Math.Seq.{take-suc}
use Rattle.std.proofs.lemmas.List.{append-nil, length-map, length-take-le, map-append}
use Rattle.std.proofs.lemmas.List.Elements.{filter-append}
use Rattle.col_common.specs.declared.error.ColumnarError.{ColumnarError}
use Rattle.col_common.specs.declared.error.ColumnarError.TheVariants as answers
use Rattle.col_model.specs.Category.{category_of, Slot}
use Rattle.col_model.specs.ColumnType.{ColumnType}
use Rattle.col_model.specs.Refusal.{each_ok}
use Rattle.col_model.specs.Written.{Entry, Recorded, has_zero}
use Rattle.col_model.proofs.RefusalLaws.{each-push}
use Rattle.col_writer_columns.specs.Answers.{Gives, Refuses}
use Rattle.col_types.specs.Kinds.{kind_of}
use Rattle.col_types.specs.declared.column_type.ColumnType.{ColumnType as Kind}
use Rattle.col_writer_file.specs.EntryColumns.{category_in}
use Rattle.col_writer_file.specs.OnRows.{content_on}
use Rattle.col_writer_file.specs.Tables.{named_entry, slot_type_of, made}
use Rattle.col_writer_file.specs.declared.named_entry.NamedEntry.{NamedEntry}
use Rattle.col_writer_file.proofs.EachLemmas.{whole-at, each-stopped, each-length}

-- ---- the tests

-- the types of the columns up to a place
pub record AreChecked (ds : List ℕ) (xs : List NamedEntry) (i : ℕ) (ks : List Kind) : Type 0 where
  pub typed : each_ok (slot_type_of ds) (map named_entry (take i xs)) ≡ Ok (map kind_of ks)
  pub categories : map (λ k. category_of (kind_of k)) ks ≡ map (λ c. category_in c.column) (take i xs)

-- before the first column no types are told
pub checked-none : (ds : List ℕ) (xs : List NamedEntry) (ks : List Kind) → ks ≡ [] → AreChecked ds xs 0 ks
checked-none ds xs ks e = record { typed = ap (λ r. Ok (map kind_of r)) (sym e); categories = ap (map (λ k. category_of (kind_of k))) e }

named_entry-more : (xs : List NamedEntry) (i : ℕ) (d : NamedEntry) → i < length xs
    → map named_entry (take (suc i) xs) ≡ map named_entry (take i xs) ++ named_entry (get_or xs i d) ∷ []
named_entry-more xs i d h = ap (map named_entry) (take-suc xs i d h) ∙ map-append named_entry (take i xs) (get_or xs i d ∷ [])

-- one column more has its type told, in its own category
pub checked-more :
    (ds : List ℕ) (xs : List NamedEntry) (i j : ℕ) (d x : NamedEntry) (ks more : List Kind) (k : Kind)
    → AreChecked ds xs i ks → i < length xs → j ≡ suc i → x ≡ get_or xs i d
    → Gives kind_of (Ok k) (slot_type_of ds (named_entry x)) → category_of (kind_of k) ≡ category_in x.column
    → more ≡ ks ++ k ∷ [] → AreChecked ds xs j more
checked-more ds xs i j d x ks more k a h step is gives same grown =
    let here : slot_type_of ds (named_entry (get_or xs i d)) ≡ Ok (kind_of k) =
    ap (λ y. slot_type_of ds (named_entry y)) (sym is) ∙ gives.ok in
    record {
      typed =
          ap (λ n. each_ok (slot_type_of ds) (map named_entry (take n xs))) step
          ∙ ap (each_ok (slot_type_of ds)) (named_entry-more xs i d h)
          ∙ each-push (slot_type_of ds) (map named_entry (take i xs)) (named_entry (get_or xs i d)) (map kind_of ks)
          (kind_of k) a.typed here
          ∙ ap Ok (sym (ap (map kind_of) grown ∙ map-append kind_of ks (k ∷ [])));
      categories =
          ap (map (λ r. category_of (kind_of r))) grown ∙ map-append (λ r. category_of (kind_of r)) ks (k ∷ [])
          ∙ (λ p. a.categories p ++ (same ∙ ap (λ (y : NamedEntry). category_in y.column) is) p ∷ [])
          ∙ sym (map-append (λ (c : NamedEntry). category_in c.column) (take i xs) (get_or xs i d ∷ []))
          ∙ ap (map (λ (c : NamedEntry). category_in c.column)) (sym (take-suc xs i d h))
          ∙ ap (λ n. map (λ (c : NamedEntry). category_in c.column) (take n xs)) (sym step);
    }

-- a refusal of the next column is that of all
pub checked-refused : {V : Type 0} (view : V → List ColumnType) (ds : List ℕ) (xs : List NamedEntry) (i : ℕ)
    (d x : NamedEntry) (ks : List Kind) (e f : ColumnarError) → AreChecked ds xs i ks → i < length xs
    → x ≡ get_or xs i d → Gives kind_of (Err e) (slot_type_of ds (named_entry x)) → f ≡ e
    → Gives view (Err f) (each_ok (slot_type_of ds) (map named_entry xs))
checked-refused view ds xs i d x ks e f a h is gives same = record { ok = tt; refused = by gives.refused }
  where
    by : (e ≡ answers.OutOfMemory) ⊎ Refuses (slot_type_of ds (named_entry x)) e
        → (f ≡ answers.OutOfMemory) ⊎ Refuses (each_ok (slot_type_of ds) (map named_entry xs)) f
    by (inl p) = inl (same ∙ p)
    by (inr (r, at, as_answer)) = inr (
      r,
      ap (λ ys. each_ok (slot_type_of ds) (map named_entry ys)) (whole-at xs i d h)
          ∙ ap (each_ok (slot_type_of ds)) (map-append named_entry (take i xs) (get_or xs i d ∷ drop (suc i) xs))
          ∙ each-stopped (slot_type_of ds) (map named_entry (take i xs)) (named_entry (get_or xs i d))
          (map named_entry (drop (suc i) xs)) (map kind_of ks) r a.typed
          (ap (λ y. slot_type_of ds (named_entry y)) (sym is) ∙ at),
      same ∙ as_answer,
    )

-- ---- the columns whose names have no zero byte

abbrev is_kept : Slot × Entry → Bool
is_kept p = not (has_zero p.0.name)

-- a column that is kept
pub named-more : (xs : List NamedEntry) (i j : ℕ) (d x : NamedEntry) (ns more : List NamedEntry)
    → map named_entry ns ≡ filter is_kept (map named_entry (take i xs)) → i < length xs → j ≡ suc i
    → x ≡ get_or xs i d → is_kept (named_entry x) ≡ true → more ≡ ns ++ x ∷ []
    → map named_entry more ≡ filter is_kept (map named_entry (take j xs))
named-more xs i j d x ns more e h step is kept grown =
    ap (map named_entry) grown ∙ map-append named_entry ns (x ∷ []) ∙ (λ p. e p ++ named_entry (is p) ∷ [])
    ∙ ap (λ b. filter is_kept (map named_entry (take i xs)) ++ cond b (named_entry (get_or xs i d) ∷ []) [])
    (sym kept ∙ ap (λ y. is_kept (named_entry y)) is)
    ∙ sym (filter-append is_kept (map named_entry (take i xs)) (named_entry (get_or xs i d) ∷ []))
    ∙ ap (filter is_kept) (sym (named_entry-more xs i d h)) ∙ ap (λ n. filter is_kept (map named_entry (take n xs))) (sym step)

-- and one that isn't
pub named-less : (xs : List NamedEntry) (i j : ℕ) (d x : NamedEntry) (ns : List NamedEntry)
    → map named_entry ns ≡ filter is_kept (map named_entry (take i xs)) → i < length xs → j ≡ suc i
    → x ≡ get_or xs i d → is_kept (named_entry x) ≡ false
    → map named_entry ns ≡ filter is_kept (map named_entry (take j xs))
named-less xs i j d x ns e h step is left =
    e ∙ sym (append-nil (filter is_kept (map named_entry (take i xs))))
    ∙ ap (λ b. filter is_kept (map named_entry (take i xs)) ++ cond b (named_entry (get_or xs i d) ∷ []) [])
    (sym left ∙ ap (λ y. is_kept (named_entry y)) is)
    ∙ sym (filter-append is_kept (map named_entry (take i xs)) (named_entry (get_or xs i d) ∷ []))
    ∙ ap (filter is_kept) (sym (named_entry-more xs i d h)) ∙ ap (λ n. filter is_kept (map named_entry (take n xs))) (sym step)

-- ---- the columns that are put

made-push : (ds : List ℕ) (es : Recorded) (ts : List ColumnType) (e : Slot × Entry) (t : ColumnType)
    → length es ≡ length ts
    → made ds (es ++ e ∷ []) (ts ++ t ∷ [])
    ≡ made ds es ts ++ record { name = e.0.name; column_type = t; content = content_on e.1 ds } ∷ []
unfolding made
made-push ds [] [] e t h = refl
made-push ds [] (u ∷ ts) e t h = absurd (omega arith)
made-push ds (f ∷ es) [] e t h = absurd (omega arith)
made-push ds (f ∷ es) (u ∷ ts) e t h =
    ap (λ r. record { name = f.0.name; column_type = u; content = content_on f.1 ds } ∷ r)
    (made-push ds es ts e t (omega arith))

-- one column more is made behind the others, of its entry and its type
pub made-more :
    (ds : List ℕ) (xs : List NamedEntry) (ts : List ColumnType) (i j : ℕ) (d : NamedEntry) (g : ColumnType)
    → i < length xs → i < length ts → j ≡ suc i
    → made ds (map named_entry (take j xs)) (take j ts)
    ≡ made ds (map named_entry (take i xs)) (take i ts)
    ++ record {
      name = (named_entry (get_or xs i d)).0.name;
      column_type = get_or ts i g;
      content = content_on (named_entry (get_or xs i d)).1 ds;
    } ∷ []
made-more ds xs ts i j d g h k step =
    ap (λ n. made ds (map named_entry (take n xs)) (take n ts)) step
    ∙ (λ p. made ds (named_entry-more xs i d h p) (take-suc ts i g k p))
    ∙ made-push ds (map named_entry (take i xs)) (take i ts) (named_entry (get_or xs i d)) (get_or ts i g) (omega (
      arith,
      length-map (take i xs) named_entry,
      length-take-le i xs (omega arith),
      length-take-le i ts (omega arith),
    ))

-- as many types as columns
pub types-long : (ds : List ℕ) (xs : List NamedEntry) (ks : List Kind)
    → each_ok (slot_type_of ds) (map named_entry xs) ≡ Ok (map kind_of ks) → length ks ≡ length xs
types-long ds xs ks e =
    sym (length-map ks kind_of) ∙ each-length (slot_type_of ds) (map named_entry xs) (map kind_of ks) e
    ∙ length-map xs named_entry

-- the categories of entries are those of their types
pub categories-of : (ks : List Kind) (xs : List NamedEntry)
    → map (λ k. category_of (kind_of k)) ks ≡ map (λ c. category_in c.column) xs
    → map category_of (map kind_of ks) ≡ map (λ p. p.0.category) (map named_entry xs)
categories-of ks xs e = kinds ks ∙ e ∙ slots xs
  where
    kinds : (ks : List Kind) → map category_of (map kind_of ks) ≡ map (λ k. category_of (kind_of k)) ks
    kinds [] = refl
    kinds (k ∷ ks) = ap (λ r. category_of (kind_of k) ∷ r) (kinds ks)

    slots : (xs : List NamedEntry) → map (λ (c : NamedEntry). category_in c.column) xs ≡ map (λ p. p.0.category) (map named_entry xs)
    slots [] = refl
    slots (x ∷ xs) = ap (λ r. category_in x.column ∷ r) (slots xs)
