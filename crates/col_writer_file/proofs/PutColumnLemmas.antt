-- Columns that are put into a file, one behind another, and the file in the end.
use Rattle.std.proofs.Common.{◌≡◌, ◌⊎◌, ℕ, List, [], ◌∷◌, ◌++◌, map, Bool, true, false, not, Result, Ok, Err, OnOk, refl, sym, ap, ◌∙◌, subst, T, arith, inl, inr}
use Rattle.std.specs.Prelude.{◌&&◌, ◌==◌, ◌||◌}
use Rattle.std.specs.FinMap.Entries.{is_sorted}
use Rattle.std.specs.List.{list_all, AllByRecursion}
use Rattle.std.specs.Str.{is_utf8}
use Rattle.std.proofs.lemmas.Bool.{and_parts, and_from}
use Rattle.std.proofs.lemmas.List.{map-append}
use Rattle.col_common.specs.Outside.{SeenSink, in_memory}
use Rattle.col_common.specs.Serializing.{Serializes}
use Rattle.col_common.specs.declared.error.ColumnarError.{ColumnarError}
use Rattle.col_common.specs.declared.error.ColumnarError.TheVariants as answers
use Rattle.col_common.proofs.SerializingLemmas.{added_in_memory, serializes-no_memory}
use Rattle.col_model.specs.Category.{category_of, slot_cmp}
use Rattle.col_model.specs.ColumnType.{ColumnType}
use Rattle.col_model.specs.File.{part_of_column, StandsFor}
use Rattle.col_model.specs.Keys.{Key, is_name}
use Rattle.col_model.specs.Sound.{key_of_column}
use Rattle.col_model.specs.Spelling.{file_bytes}
use Rattle.col_model.specs.Table.{Content, Column, Table}
use Rattle.col_model.specs.Written.{Recorded, has_zero}
use Rattle.col_model.proofs.DistinctLaws.{rises}
use Rattle.col_model.proofs.ListLaws.{all_push}
use Rattle.col_model.proofs.SlotLaws.{column_slot}
use Rattle.col_model.proofs.SoundTables.{keys-of_slots}
use Rattle.col_model.proofs.WrittenSound.{sorted-slots}
use Rattle.col_model.proofs.WrittenTables.{rising-keys}
use Rattle.col_keys.specs.Put.{PutColumns, no_columns, Puts, HavePut, part_put, AreKeys, HasColumns}
use Rattle.col_keys.proofs.PutLemmas.{puts-as, have-none, have-more, have-refused}
use Rattle.col_keys.proofs.StandLemmas.{stands-for, same-keys}
use Rattle.col_writer_rows.specs.Counted.{SerializesColumn}
use Rattle.col_writer_file.specs.Tables.{made, PutsColumn, ArePut, PutsColumns, WritesFile}

-- ---- one column

-- want of memory alone stops a column in memory
memory-only : (xs ys zs : List ℕ) (e : ColumnarError) → Serializes (in_memory xs) (in_memory ys) (Err e) zs → e ≡ answers.OutOfMemory
memory-only xs ys zs e s = by s.causes
  where
    by : (e ≡ answers.OutOfMemory) ⊎ (e ≡ answers.WriteFault) → e ≡ answers.OutOfMemory
    by (inl p) = p
    by (inr p) = absurd (let rose = s.write_fault (ap Err p) in omega (arith, rose))

-- a column that stops in memory puts nothing, with its refusal
pub put-stopped : (xs ys : List ℕ) (a : SeenSink) (columns : PutColumns) (e x : ColumnarError) (key : Key) (n : ℕ)
    (t : ColumnType) (content : Content) → SerializesColumn (in_memory xs) (in_memory ys) (Err e) t n content
    → x ≡ e → PutsColumn columns columns a a (Err x) key n content
put-stopped xs ys a columns e x key n t content s same = record {
  bytes = [];
  again = tt;
  puts =
      record {
        written = subst (λ z. Serializes a a (Err z) []) (sym (same ∙ memory-only xs ys s.bytes e s.written))
            (serializes-no_memory a []);
        listed = tt;
        fits = tt;
        kept = refl;
      };
}

-- a column whose bytes are made in memory, and then put, is put with its content
pub put-done : (xs ys : List ℕ) (a b : SeenSink) (old new : PutColumns) (done : Unit {0})
    (result : Result (Unit {0}) ColumnarError) (key other : Key) (n : ℕ) (content : Content) → xs ≡ [] → other ≡ key
    → SerializesColumn (in_memory xs) (in_memory ys) (Ok done) key.column_type n content
    → Puts old new a b result other ys → PutsColumn old new a b result key n content
put-done xs ys a b old new done result key other n content empty same s puts =
    let is : ys ≡ s.bytes = added_in_memory xs ys s.bytes done s.written ∙ ap (λ r. r ++ s.bytes) empty in
    record {
      bytes = s.bytes;
      again = always result s.again;
      puts = puts-as a b old new result key ys s.bytes (subst (λ k. Puts old new a b result k ys) same puts) is;
    }
  where
    always : {P : Type 0} (r : Result (Unit {0}) ColumnarError) → P → OnOk r P
    always (Ok x) p = p
    always (Err e) p = tt

-- ---- columns behind columns

-- before the first column none is put
pub put-none : (a : SeenSink) (n : ℕ) → ArePut a a no_columns n []
put-none a n = record { ps = []; have = have-none a; are = refl; text = tt }

-- one column more is put behind the others, where its name is UTF-8
pub put-more : (start a b : SeenSink) (old new : PutColumns) (n : ℕ) (cs : List Column) (key : Key) (content : Content)
    (done : Unit {0}) → ArePut start a old n cs → PutsColumn old new a b (Ok done) key n content
    → is_utf8 key.name ≡ true
    → ArePut start b new n (cs ++ record { name = key.name; column_type = key.column_type; content = content } ∷ [])
put-more start a b old new n cs key content done have puts text = record {
  ps = have.ps ++ (key, puts.bytes) ∷ [];
  have = have-more start a b old new have.ps key puts.bytes done have.have puts.puts;
  are = map-append (part_put n) have.ps ((key, puts.bytes) ∷ [])
      ∙ (λ i. have.are i ++ record { name = key.name; column_type = key.column_type; content = puts.again i } ∷ [])
      ∙ sym (map-append part_of_column cs (record { name = key.name; column_type = key.column_type; content = content } ∷ []));
  text = all_push (λ c. is_utf8 c.name ≡ true) cs _ have.text text;
}

-- a column that is refused refuses all
pub put-refused : (start a b : SeenSink) (old new : PutColumns) (n : ℕ) (cs all : List Column) (key : Key)
    (content : Content) (e : ColumnarError) → ArePut start a old n cs → PutsColumn old new a b (Err e) key n content
    → PutsColumns start b new (Err e) n all
put-refused start a b old new n cs all key content e have puts = record {
  put = tt;
  refused = λ zs. have-refused start a b old new have.ps key puts.bytes zs e have.have puts.puts;
}

-- ---- the file

no-zero : (name : List ℕ) → not (has_zero name) ≡ true → list_all (λ b. not (b == 0)) name ≡ true
no-zero [] e = refl
no-zero (b ∷ name) e = by (b == 0) e (no-zero name)
  where
    by : (z : Bool) → not (z || has_zero name) ≡ true
        → (not (has_zero name) ≡ true → list_all (λ b. not (b == 0)) name ≡ true)
        → (not z && list_all (λ b. not (b == 0)) name) ≡ true
    by true e later = absurd (cc)
    by false e later = later e

names-all : (cs : List Column) → AllByRecursion (λ c. is_utf8 c.name ≡ true) cs
    → AllByRecursion (λ c. not (has_zero c.name) ≡ true) cs
    → AllByRecursion (λ key. is_name key.name ≡ true) (map key_of_column cs)
names-all [] text zero = tt
names-all (c ∷ cs) text zero = (and_from _ _ text.0 (no-zero c.name zero.0), names-all cs text.1 zero.1)

-- columns have the slots of their entries
pub made-slots : (ds : List ℕ) (es : Recorded) (ts : List ColumnType)
    → map category_of ts ≡ map (λ p. p.0.category) es → map column_slot (made ds es ts) ≡ map (λ p. p.0) es
unfolding made
made-slots ds [] ts e = refl
made-slots ds (p ∷ es) [] e = absurd (cc)
made-slots ds (p ∷ es) (t ∷ ts) e =
    λ i. record { name = p.0.name; category = head-same e i } ∷ made-slots ds es ts (tail-same e) i
  where
    head-same : category_of t ∷ map category_of ts ≡ p.0.category ∷ map (λ q. q.0.category) es → category_of t ≡ p.0.category
    head-same e = cc

    tail-same : category_of t ∷ map category_of ts ≡ p.0.category ∷ map (λ q. q.0.category) es
        → map category_of ts ≡ map (λ q. q.0.category) es
    tail-same e = cc

pub made-named : (ds : List ℕ) (es : Recorded) (ts : List ColumnType)
    → list_all (λ p. not (has_zero p.0.name)) es ≡ true
    → AllByRecursion (λ c. not (has_zero c.name) ≡ true) (made ds es ts)
unfolding made
made-named ds [] ts e = tt
made-named ds (p ∷ es) [] e = tt
made-named ds (p ∷ es) (t ∷ ts) e =
    let parts = and_parts (not (has_zero p.0.name)) (list_all (λ q. not (has_zero q.0.name)) es) e in
    (parts.0, made-named ds es ts parts.1)

-- a file of columns in the order of their slots
pub file-written : (start mid new : SeenSink) (result : Result (Unit {0}) ColumnarError) (file : PutColumns)
    (n rows : ℕ) (ds : List ℕ) (es : Recorded) (ts : List ColumnType) → rows ≡ n
    → ArePut start mid file n (made ds es ts) → list_all (λ p. not (has_zero p.0.name)) es ≡ true
    → map category_of ts ≡ map (λ p. p.0.category) es → T (is_sorted slot_cmp es)
    → ((from : SeenSink) (ps : List (Key × List ℕ)) → HavePut from mid file ps → Serializes from new result (file_bytes rows ps))
    → OnOk result ((from : SeenSink) (ps : List (Key × List ℕ)) → HavePut from mid file ps
    → AreKeys (map (λ p. p.0) ps) → HasColumns (file_bytes rows ps) rows ps)
    → WritesFile start new result (record { row_count = n; columns = made ds es ts })
file-written start mid new result file n rows ds es ts count put named categories sorted whole columns = record {
  file = file_bytes rows put.ps;
  stands = by result columns;
  written = whole start put.ps put.have;
}
  where
    names : AllByRecursion (λ key. is_name key.name ≡ true) (map key_of_column (made ds es ts))
    names = names-all (made ds es ts) put.text (made-named ds es ts named)

    rising : T (rises slot_cmp (map column_slot (made ds es ts)))
    rising = subst (λ slots. T (rises slot_cmp slots)) (sym (made-slots ds es ts categories)) (rising-keys es sorted)

    keys : AreKeys (map (λ p. p.0) put.ps)
    keys = subst AreKeys (sym (same-keys n put.ps (made ds es ts) put.are))
        (record { names = names; ascend = keys-of_slots (made ds es ts) names (sorted-slots (made ds es ts) rising) })

    by : (r : Result (Unit {0}) ColumnarError)
        → OnOk r ((from : SeenSink) (ps : List (Key × List ℕ)) → HavePut from mid file ps
        → AreKeys (map (λ p. p.0) ps) → HasColumns (file_bytes rows ps) rows ps)
        → OnOk r (StandsFor (record { row_count = n; columns = made ds es ts }) (file_bytes rows put.ps))
    by (Ok done) h =
        stands-for (file_bytes rows put.ps) n put.ps (made ds es ts)
        (subst (λ m. HasColumns (file_bytes rows put.ps) m put.ps) count (h start put.ps put.have keys)) put.are
    by (Err e) h = tt

-- a refusal with a cause is one of the file, whatever was to be written
pub file-refused : (a b : SeenSink) (e : ColumnarError) (table : Table)
    → ((bytes : List ℕ) → Serializes a b (Err e) bytes) → WritesFile a b (Err e) table
file-refused a b e table h = record { file = []; stands = tt; written = h [] }
