-- Columns of a file, put into another one after another.
use Rattle.std.proofs.Common.{◌≡◌, ◌⊎◌, inl, inr, ℕ, zero, suc, ◌+◌, ◌≤◌, true, List, [], ◌∷◌, ◌++◌, map, length, take, slice_get, is_some, Option, Some, None, IfSome, Result, Ok, Err, refl, sym, ap, ap₂, ◌∙◌, subst, arith, String, string_bytes}
use Rattle.std.specs.List.{AllByRecursion}
use Rattle.std.specs.declared.alloc.Global.{Global}
use Rattle.std.proofs.lemmas.List.{length-map, map_push, take_all}
use Rattle.std.proofs.lemmas.Option.{same_Some}
use Rattle.col_common.specs.Outside.{SeenFile, SeenSink, Grows}
use Rattle.col_common.specs.Reading.{◌>>=◌}
use Rattle.col_common.specs.Serializing.{Serializes}
use Rattle.col_common.specs.declared.error.ColumnarError.{ColumnarError}
use Rattle.col_common.proofs.SerializingLemmas.{appends_none}
use Rattle.col_common.specs.declared.error.ColumnarError.TheVariants.{OutOfMemory, ReadFault, WriteFault, InvalidData}
use Rattle.col_model.specs.File.{PartColumn, part_column, whole_column, for_each, table_of_part, table_of}
use Rattle.col_model.specs.Keys.{Entry, FileKeys, Key, keys}
use Rattle.col_model.specs.Table.{Column, Content}
use Rattle.col_model.proofs.FileLaws.{parts_of-keys}
use Rattle.col_model.proofs.ListLaws.{all_push}
use Rattle.col_keys.specs.Put.{PutColumns, no_columns, Puts, HavePut, part_put}
use Rattle.col_keys.proofs.PutLemmas.{have-none, have-more}
use Rattle.col_file.specs.Checks.{is_column}
use Rattle.col_file.specs.Columns.{content_at}
use Rattle.col_file.specs.Files.{IsExpected, RefusesFile}
use Rattle.col_file.specs.Handles.{Handle, handle_of, is_entry, listed}
use Rattle.col_file.specs.Readers.{SeenReader, Reads, IsRead}
use Rattle.col_file.proofs.ListLemmas.{take-next}
use Rattle.col_file.proofs.PartLemmas.{content-of_entry, own-handles}
use Rattle.col_file.proofs.ReadLemmas.{rose-later}
use Rattle.col_upgrade.specs.Again.{StandsForContent}
use Rattle.col_upgrade.specs.Upgrades.{RefusesAgain, PutAgain, PutsAgain, AreAgain, PutSoFar}

-- ---- items of lists

-- an item of a list that is seen as another is an item there
item-seen : {A B C : Type 0} (f : A → C) (g : B → C) (xs : List A) (ys : List B) → map f xs ≡ map g ys
    → (i : ℕ) (x : A) → slice_get xs i ≡ Some x → (y : B) × (slice_get ys i ≡ Some y) × (f x ≡ g y)
item-seen f g [] ys e i x at = cc
item-seen f g (x ∷ xs) [] e i z at = cc
item-seen f g (x ∷ xs) (y ∷ ys) e zero z at =
    let one : x ≡ z = same_Some x z at in
    let same : f x ≡ g y = cc in
    (y, refl, ap f (sym one) ∙ same)
item-seen f g (x ∷ xs) (y ∷ ys) e (suc i) z at =
    let rest : map f xs ≡ map g ys = cc in
    item-seen f g xs ys rest i z at

-- a name in memory beside a handle, as a file lists them
abbrev pub named_by : String Global × Handle → List ℕ × Handle
named_by p = (string_bytes p.0, p.1)

-- a name and a handle, as a file lists them, are those of the entry at a place
pub record IsListed (es : List Entry) (place : ℕ) (named : List ℕ) (h : Handle) : Type 0 where
  pub entry : Entry
  pub here : slice_get es place ≡ Some entry
  pub name : named ≡ entry.key.name
  pub handled : h ≡ handle_of entry

-- an item of the list of a file's columns is an entry of the file
pub item-listed : (xs : List (String Global × Handle)) (es : List Entry) → map named_by xs ≡ map listed es
    → (i : ℕ) (x : String Global × Handle) → slice_get xs i ≡ Some x → IsListed es i (string_bytes x.0) x.1
item-listed xs es e i x at =
    let seen = item-seen named_by listed xs es e i x at in
    record {
      entry = seen.0;
      here = seen.1;
      name = ap (λ (p : List ℕ × Handle). p.0) seen.2;
      handled = ap (λ (p : List ℕ × Handle). p.1) seen.2;
    }

-- what is so of all items is so of one
all-at : {A : Type 0} (P : A → Type 0) (xs : List A) → AllByRecursion P xs → (i : ℕ) (x : A) → slice_get xs i ≡ Some x → P x
all-at P [] all i x e = cc
all-at P (y ∷ xs) all zero x e = subst P (same_Some y x e) all.0
all-at P (y ∷ xs) all (suc i) x e = all-at P xs all.1 i x e

-- ---- what a column stands for

-- a part of these, where its bytes stand for something
abbrev part_of : Key → Option Content → PartColumn
part_of key content = record { name = key.name; column_type = key.column_type; content = content }

-- a column that was put again is the one that an entry has
record IsSame (bytes : List ℕ) (k : FileKeys) (e : Entry) (p : Key × List ℕ) : Type 0 where
  same : part_put k.row_count p ≡ part_column bytes k e
  whole : is_column bytes k e ≡ true

same-column : (bytes : List ℕ) (k : FileKeys) (e : Entry) (made : List ℕ) → is_entry k (handle_of e) ≡ true
    → IsExpected (StandsForContent e.key.column_type k.row_count) made (content_at k (handle_of e) bytes)
    → IsSame bytes k e (e.key, made)
same-column bytes k e made entry told = by (part_column bytes k e).content refl
    (subst (IsExpected (StandsForContent e.key.column_type k.row_count) made) (content-of_entry bytes k e entry) told)
  where
    by : (o : Option Content) → (part_column bytes k e).content ≡ o
        → IsExpected (StandsForContent e.key.column_type k.row_count) made o → IsSame bytes k e (e.key, made)
    by None at h = absurd h
    by (Some content) at h = record {
      same = ap (part_of e.key) (h ∙ sym at);
      whole = ap is_some at;
    }

-- one more column
are-more : (bytes : List ℕ) (k : FileKeys) (es : List Entry) (ps : List (Key × List ℕ)) (e : Entry) (p : Key × List ℕ)
    → AreAgain bytes k es ps → IsSame bytes k e p → AreAgain bytes k (es ++ e ∷ []) (ps ++ p ∷ [])
are-more bytes k es ps e p so_far one = record {
  same =
      map_push (part_put k.row_count) ps p
      ∙ ap₂ (λ front last. front ++ last ∷ []) so_far.same one.same
      ∙ sym (map_push (part_column bytes k) es e);
  whole = all_push (λ e. is_column bytes k e ≡ true) es e so_far.whole one.whole;
}

-- ---- the turns of the loop

-- before the first column none is put
pub put-none : (r : SeenReader) (a : SeenSink) (columns : PutColumns) → columns ≡ no_columns → PutSoFar r a a columns []
put-none r a columns none = record {
  ps = [];
  put = subst (λ columns. HavePut a a columns []) (sym none) (have-none a);
  told = at r.file.told;
}
  where
    at : (o : Option (List ℕ)) → IfSome o (λ bytes. AreAgain bytes r.keys [] [])
    at None = tt
    at (Some bytes) = record { same = refl; whole = tt }

module _ (old now : SeenReader) (place : ℕ) (e : Entry) (here : slice_get old.keys.entries place ≡ Some e)
    (before : Reads place old now) where
  own-entry : is_entry old.keys (handle_of e) ≡ true
  own-entry =
      all-at (λ e. is_entry old.keys (handle_of e) ≡ true) old.keys.entries (own-handles old.keys) place e here

  -- One more column is put.
  pub put-more : (start a b : SeenSink) (columns next : PutColumns) (name : List ℕ) (h : Handle) → name ≡ e.key.name
      → h ≡ handle_of e → PutSoFar old start a columns (take place old.keys.entries)
      → PutAgain now columns next a b name h → PutSoFar old start b next (take (place + 1) old.keys.entries)
  put-more start a b columns next name h named handled so_far puts = record {
    ps = so_far.ps ++ (e.key, puts.bytes) ∷ [];
    put = have-more start a b columns next so_far.ps e.key puts.bytes tt so_far.put
        (subst (λ key. Puts columns next a b (Ok tt) key puts.bytes)
        (λ i. record { name = named i; column_type = (handled i).column_type }) puts.put);
    told = at old.file.told so_far.told
        (subst (λ o. IfSome o (λ all. IsExpected (StandsForContent h.column_type now.keys.row_count) puts.bytes
        (content_at now.keys h all))) before.file.told puts.told);
  }
    where
      grown : take place old.keys.entries ++ e ∷ [] ≡ take (place + 1) old.keys.entries
      grown =
          let next : suc place ≡ place + 1 = omega arith in
          sym (take-next old.keys.entries place e here) ∙ ap (λ n. take n old.keys.entries) next

      one : (bytes : List ℕ) → IsExpected (StandsForContent h.column_type now.keys.row_count) puts.bytes (content_at now.keys h bytes)
          → IsSame bytes old.keys e (e.key, puts.bytes)
      one bytes t =
          same-column bytes old.keys e puts.bytes own-entry
          (subst (λ (h : Handle). IsExpected (StandsForContent h.column_type old.keys.row_count) puts.bytes (content_at old.keys h bytes))
          handled
          (subst (λ (k : FileKeys). IsExpected (StandsForContent h.column_type k.row_count) puts.bytes (content_at k h bytes))
          before.keys t))

      at : (o : Option (List ℕ)) → IfSome o (λ bytes. AreAgain bytes old.keys (take place old.keys.entries) so_far.ps)
          → IfSome o (λ all. IsExpected (StandsForContent h.column_type now.keys.row_count) puts.bytes (content_at now.keys h all))
          → IfSome o (λ bytes. AreAgain bytes old.keys (take (place + 1) old.keys.entries) (so_far.ps ++ (e.key, puts.bytes) ∷ []))
      at None s t = tt
      at (Some bytes) s t =
          subst (λ es. AreAgain bytes old.keys es (so_far.ps ++ (e.key, puts.bytes) ∷ [])) grown
          (are-more bytes old.keys (take place old.keys.entries) so_far.ps e (e.key, puts.bytes) s (one bytes t))

-- ---- the first column that isn't put

-- a step that gives nothing leaves nothing of a list
each-none : {A B C : Type 0} (f : B → Option C) (g : A → B) (xs : List A) (i : ℕ) (x : A) → slice_get xs i ≡ Some x
    → f (g x) ≡ None → for_each f (map g xs) ≡ None
each-none f g [] i x at none = cc
each-none {C = C} f g (y ∷ xs) zero x at none =
    ap (λ o. o >>= λ z. for_each f (map g xs) >>= λ (zs : List C). Some (z ∷ zs)) (ap (λ z. f (g z)) (same_Some y x at) ∙ none)
each-none {C = C} f g (y ∷ xs) (suc i) x at none = by (f (g y)) (each-none f g xs i x at none)
  where
    by : (o : Option C) → for_each f (map g xs) ≡ None → (o >>= λ z. for_each f (map g xs) >>= λ (zs : List C). Some (z ∷ zs)) ≡ None
    by None rest = refl
    by (Some z) rest = ap (λ o. o >>= λ (zs : List C). Some (z ∷ zs)) rest

-- the table of a file whose keys are known
pub table-keys : (bytes : List ℕ) (k : FileKeys) → keys bytes ≡ Some k
    → table_of bytes ≡ (for_each whole_column (map (part_column bytes k) k.entries)
    >>= λ columns. Some (record { row_count = k.row_count; columns = columns }))
table-keys bytes k read = ap (λ o. o >>= table_of_part) (parts_of-keys bytes k read)

-- an entry that stands for nothing leaves no table
no-table : (bytes : List ℕ) (k : FileKeys) (place : ℕ) (e : Entry) → slice_get k.entries place ≡ Some e
    → keys bytes ≡ Some k → content_at k (handle_of e) bytes ≡ None → table_of bytes ≡ None
no-table bytes k place e here read none =
    let entry = all-at (λ e. is_entry k (handle_of e) ≡ true) k.entries (own-handles k) place e here in
    let content : (part_column bytes k e).content ≡ None = sym (content-of_entry bytes k e entry) ∙ none in
    table-keys bytes k read
    ∙ ap (λ (o : Option (List Column)). o >>= λ columns. Some (record { row_count = k.row_count; columns = columns }))
    (each-none whole_column (part_column bytes k) k.entries place e here
    (ap (λ (o : Option Content). o >>= λ content.
    Some (record { name = e.key.name; column_type = e.key.column_type; content = content })) content))

-- A column that isn't put ends the file.
pub put-stops : (old now next : SeenReader) (place : ℕ) (e : Entry) (start a b : SeenSink) (error : ColumnarError) (h : Handle)
    → slice_get old.keys.entries place ≡ Some e → h ≡ handle_of e → IsRead old → Reads place old now
    → start.faults ≤ a.faults → RefusesAgain now.file next.file a b error (content_at now.keys h)
    → RefusesAgain old.file next.file start b error table_of
put-stops old now next place e start a b OutOfMemory h here handled read before later refuses = tt
put-stops old now next place e start a b ReadFault h here handled read before later refuses =
    rose-later old.file.faults now.file.faults next.file.faults before.file.later refuses
put-stops old now next place e start a b WriteFault h here handled read before later refuses =
    rose-later start.faults a.faults b.faults later refuses
put-stops old now next place e start a b InvalidData h here handled read before later refuses =
    at old.file.told read.told (subst (λ o. IfSome o (λ bytes. content_at now.keys h bytes ≡ None)) before.file.told refuses)
  where
    at : (o : Option (List ℕ)) → IfSome o (λ bytes. keys bytes ≡ Some old.keys) → IfSome o (λ bytes. content_at now.keys h bytes ≡ None)
        → IfSome o (λ bytes. table_of bytes ≡ None)
    at None k r = tt
    at (Some bytes) k r =
        no-table bytes old.keys place e here k
        (subst (λ (h : Handle). content_at old.keys h bytes ≡ None) handled
        (subst (λ (k : FileKeys). content_at k h bytes ≡ None) before.keys r))
put-stops old now next place e start a b _ h here handled read before later refuses = absurd refuses

-- A call that was refused by the sink, or for want of memory, has a cause.
pub serialize-refused : {V : Type 0} (old new : SeenFile) (a b : SeenSink) (e : ColumnarError) (bytes : List ℕ)
    (expected : List ℕ → Option V) → Serializes a b (Err e) bytes → RefusesAgain old new a b e expected
serialize-refused {V} old new a b e bytes expected h = by h.causes
  where
    by : (e ≡ OutOfMemory) ⊎ (e ≡ WriteFault) → RefusesAgain {V = V} old new a b e expected
    by (inl q) = subst (λ e. RefusesAgain {V = V} old new a b e expected) (sym q) tt
    by (inr q) = subst (λ e. RefusesAgain {V = V} old new a b e expected) (sym q) (h.write_fault (ap Err q))

-- what was put of an entry's column, or why not
pub put-answer : (olds news : SeenReader) (old new : PutColumns) (a b : SeenSink) (r : Result (Unit {0}) ColumnarError)
    (name : List ℕ) (h : Handle) (key : Key) (bytes : List ℕ) → key ≡ record { name = name; column_type = h.column_type }
    → Puts old new a b r key bytes
    → IfSome olds.file.told (λ all. IsExpected (StandsForContent h.column_type olds.keys.row_count) bytes (content_at olds.keys h all))
    → PutsAgain olds news old new a b r name h
put-answer olds news old new a b (Ok done) name h key bytes same puts told = record {
  bytes = bytes;
  put = subst (λ key. Puts old new a b (Ok tt) key bytes) same puts;
  told = told;
}
put-answer olds news old new a b (Err e) name h key bytes same puts told =
    serialize-refused olds.file news.file a b e bytes (content_at olds.keys h) puts.written

-- A column that couldn't be read, or stands for nothing, has a cause.
pub read-refused : {V : Type 0} (old new : SeenFile) (a : SeenSink) (e : ColumnarError) (expected : List ℕ → Option V)
    → RefusesFile old new e expected → RefusesAgain old new a a e expected
read-refused old new a OutOfMemory expected h = tt
read-refused old new a ReadFault expected h = h
read-refused old new a InvalidData expected h = h
read-refused old new a _ expected h = absurd h

-- a sink that stays grew by nothing
pub grows-none : (a : SeenSink) → Grows a a
grows-none a = ([], appends_none a)

-- lists that are seen as one have as many items
pub same-many : {A B C : Type 0} (f : A → C) (g : B → C) (xs : List A) (ys : List B) → map f xs ≡ map g ys → length xs ≡ length ys
same-many f g xs ys e = sym (length-map xs f) ∙ ap length e ∙ length-map ys g

-- as many items as another list has are all of a list that is seen as it
pub all-taken : {A B C : Type 0} (f : A → C) (g : B → C) (xs : List A) (ys : List B) → map f xs ≡ map g ys
    → (n : ℕ) → length xs ≤ n → take n ys ≡ ys
all-taken f g xs ys e n h =
    let same = same-many f g xs ys e in
    take_all n ys (omega arith)
