-- Columns that are opened one after another by their handles.
use Rattle.std.proofs.Common.{◌≡◌, ℕ, ◌+◌, ◌≤◌, true, List, [], ◌∷◌, ◌++◌, map, length, string_bytes, Option, Some, None, IfSome, refl, sym, ap, ◌∙◌, subst, append_assoc, append-nil, arith}
use Rattle.std.specs.List.{AllByRecursion}
use Rattle.std.proofs.lemmas.List.{length-append}
use Rattle.col_common.specs.Reading.{◌>>=◌}
use Rattle.col_common.specs.Causes.{Rose}
use Rattle.col_common.specs.declared.error.ColumnarError.{ColumnarError}
use Rattle.col_common.specs.declared.error.ColumnarError.TheVariants.{OutOfMemory, ReadFault, InvalidData}
use Rattle.col_common.specs.Outside.{SeenFile}
use Rattle.col_model.specs.File.{for_each}
use Rattle.col_model.specs.Keys.{Entry, FileKeys}
use Rattle.col_model.specs.Table.{Content, Column}
use Rattle.col_model.proofs.ListLaws.{all-two}
use Rattle.col_file.specs.Columns.{content_at, HasContent}
use Rattle.col_file.specs.Files.{IsExpected, RefusesFile}
use Rattle.col_file.specs.Handles.{handle_of, is_entry}
use Rattle.col_file.specs.Readers.{SeenReader, Reads}
use Rattle.col_file.proofs.ReadLemmas.{reads-none, reads-then, reads-most}
use Rattle.col_file.proofs.PartLemmas.{content-of_entry}
use Rattle.col_opened.specs.Chosen.{whole_entry}
use Rattle.col_opened.specs.Opened.{column_of, Listed, entry_listed, HasRows}
use Rattle.col_opened.specs.declared.open_columns.OpenColumn.{OpenColumn}

-- ---- the column of one entry

module _ (k : FileKeys) (e : Entry) (entry : is_entry k (handle_of e) ≡ true) where
  abbrev with_content : Option Content → Option Column
  with_content o = o >>= λ content.
      Some (record { name = e.key.name; column_type = e.key.column_type; content = content })

  entry-opened : (bytes : List ℕ) → whole_entry bytes k e ≡ with_content (content_at k (handle_of e) bytes)
  entry-opened bytes = ap with_content (sym (content-of_entry bytes k e entry))

  -- bytes that are no column
  pub entry-refused : (old new : SeenFile) (x : ColumnarError) → RefusesFile old new x (content_at k (handle_of e))
      → RefusesFile old new x (λ bytes. whole_entry bytes k e)
  entry-refused old new OutOfMemory h = tt
  entry-refused old new InvalidData h = at old.told h
    where
      at : (o : Option (List ℕ)) → IfSome o (λ bytes. content_at k (handle_of e) bytes ≡ None)
          → IfSome o (λ bytes. whole_entry bytes k e ≡ None)
      at None h = tt
      at (Some bytes) h = entry-opened bytes ∙ ap with_content h
  entry-refused old new ReadFault h = h
  entry-refused old new _ h = absurd h

  -- a column of the entry
  pub entry-answered : (told : Option (List ℕ)) (made : OpenColumn) → string_bytes made.name ≡ e.key.name
      → IfSome told
      (λ bytes. IsExpected (HasContent e.key.column_type) made.column (content_at k (handle_of e) bytes))
      → IfSome told (λ bytes. IsExpected (λ c column. column_of column ≡ c) made (whole_entry bytes k e))
  entry-answered None made named h = tt
  entry-answered (Some bytes) made named h =
      subst (IsExpected (λ c column. column_of column ≡ c) made) (sym (entry-opened bytes))
      (by (content_at k (handle_of e) bytes) h)
    where
      by : (o : Option Content) → IsExpected (HasContent e.key.column_type) made.column o
          → IsExpected (λ c column. column_of column ≡ c) made (with_content o)
      by None h = absurd h
      by (Some content) h = λ i. record { name = named i; column_type = h.kind i; content = h.cells i }

-- ---- the columns of all that are listed

-- what was made before, and what is still made
abbrev pub with_items : {A : Type 0} → List A → Option (List A) → Option (List A)
with_items front made = made >>= λ xs. Some (front ++ xs)

regroup_items : {A : Type 0} (front : List A) (x : A) (made : Option (List A))
    → with_items front (made >>= λ xs. Some (x ∷ xs)) ≡ with_items (front ++ x ∷ []) made
regroup_items front x (Some xs) = ap Some (sym (append_assoc front (x ∷ []) xs))
regroup_items front x None = refl

no_items : {A : Type 0} (made : Option (List A)) → with_items [] made ≡ made
no_items (Some xs) = refl
no_items None = refl

each-goes_on :
    {A B : Type 0} (f : A → Option B) (front : List B) (x : A) (xs : List A) (y : B) (total : Option (List B))
    → f x ≡ Some y → with_items front (for_each f (x ∷ xs)) ≡ total
    → with_items (front ++ y ∷ []) (for_each f xs) ≡ total
each-goes_on f front x xs y total h so_far =
    let one : with_items front (for_each f (x ∷ xs)) ≡ with_items (front ++ y ∷ []) (for_each f xs) =
    rw h (regroup_items front y (for_each f xs)) in
    sym one ∙ so_far

each-stops : {A B : Type 0} (f : A → Option B) (front : List B) (x : A) (xs : List A) (total : Option (List B))
    → f x ≡ None → with_items front (for_each f (x ∷ xs)) ≡ total → total ≡ None
each-stops f front x xs total h so_far =
    let none : with_items front (for_each f (x ∷ xs)) ≡ None = rw h refl in
    sym so_far ∙ none

-- entries of a file are listed
abbrev pub AreListed : FileKeys → List Listed → Type 0
AreListed k ps = AllByRecursion (λ p. is_entry k p.1 ≡ true) ps

-- what the bytes of those that are listed stand for
abbrev pub whole_listed : FileKeys → List Listed → List ℕ → Option (List Column)
whole_listed k ps bytes = for_each (whole_entry bytes k) (map entry_listed ps)

-- The columns so far of a reader as it was at first, and those that are left.
pub record OpensFrom (all : List Listed) (old now : SeenReader) (left : List Listed) (made : List Column) : Type 0 where
  pub entries : AreListed old.keys left
  pub so_far : IfSome old.file.told (λ bytes.
      with_items made (whole_listed old.keys left bytes) ≡ whole_listed old.keys all bytes)
  pub rows : AllByRecursion (HasRows old.keys.row_count) made
  pub reads : Reads (length made) old now
  pub few : length made + length left ≡ length all

-- before the first column is opened, all that are listed are left
pub opens-none : (r : SeenReader) (all left : List Listed) → AreListed r.keys all → left ≡ all → OpensFrom all r r left []
opens-none r all left entries e = record {
  entries = subst (AreListed r.keys) (sym e) entries;
  so_far = at r.file.told;
  rows = tt;
  reads = reads-none 0 r;
  few = omega (arith, ap length e);
}
  where
    at : (o : Option (List ℕ))
        → IfSome o (λ bytes. with_items [] (whole_listed r.keys left bytes) ≡ whole_listed r.keys all bytes)
    at None = tt
    at (Some bytes) = no_items _ ∙ ap (λ ps. whole_listed r.keys ps bytes) e

module _ (all : List Listed) (old now next : SeenReader) (x : Listed) (left : List Listed) (made : List Column)
    (was : OpensFrom all old now (x ∷ left) made) where
  -- the one that comes is an entry
  pub next-entry : is_entry now.keys x.1 ≡ true
  next-entry = subst (λ (k : FileKeys). is_entry k x.1 ≡ true) (sym was.reads.keys) was.entries.0

  -- one more was read, and no more than are listed
  pub next-read : Reads 1 now next → Reads (length all) old next
  next-read kept = reads-most (length made + 1) (length all) old next (omega (arith, was.few))
      (reads-then (length made) 1 old now next was.reads kept)

  -- one more column
  pub opens-more : (c : OpenColumn) → Reads 1 now next
      → IfSome now.file.told
      (λ bytes. IsExpected (λ p c. column_of c ≡ p) c (whole_entry bytes now.keys (entry_listed x)))
      → HasRows now.keys.row_count (column_of c)
      → OpensFrom all old next left (made ++ column_of c ∷ [])
  opens-more c kept answer rows = record {
    entries = was.entries.1;
    so_far =
        at old.file.told (subst
        (λ o. IfSome o (λ bytes. IsExpected (λ p c. column_of c ≡ p) c (whole_entry bytes old.keys (entry_listed x))))
        was.reads.file.told (subst (λ (k : FileKeys). IfSome now.file.told
        (λ bytes. IsExpected (λ p c. column_of c ≡ p) c (whole_entry bytes k (entry_listed x)))) was.reads.keys answer))
        was.so_far;
    rows =
        all-two (HasRows old.keys.row_count) made (column_of c ∷ []) was.rows
        (subst (λ (k : FileKeys). HasRows k.row_count (column_of c)) was.reads.keys rows, tt);
    reads =
        subst (λ n. Reads n old next) (sym (length-append made (column_of c ∷ [])))
        (reads-then (length made) 1 old now next was.reads kept);
    few = omega (arith, was.few, length-append made (column_of c ∷ []));
  }
    where
      expected : (o : Option Column) → IsExpected (λ p c. column_of c ≡ p) c o → o ≡ Some (column_of c)
      expected None h = absurd h
      expected (Some p) h = ap Some (sym h)

      at : (o : Option (List ℕ))
          → IfSome o (λ bytes. IsExpected (λ p c. column_of c ≡ p) c (whole_entry bytes old.keys (entry_listed x)))
          → IfSome o (λ bytes. with_items made (whole_listed old.keys (x ∷ left) bytes) ≡ whole_listed old.keys all bytes)
          → IfSome o (λ bytes. with_items (made ++ column_of c ∷ []) (whole_listed old.keys left bytes)
          ≡ whole_listed old.keys all bytes)
      at None h s = tt
      at (Some bytes) h s =
          each-goes_on (whole_entry bytes old.keys) made (entry_listed x) (map entry_listed left) (column_of c) _
          (expected (whole_entry bytes old.keys (entry_listed x)) h) s

  -- a column that refuses is a refusal of all
  pub opens-refused : (e : ColumnarError)
      → RefusesFile now.file next.file e (λ bytes. whole_entry bytes now.keys (entry_listed x))
      → RefusesFile old.file next.file e (whole_listed old.keys all)
  opens-refused OutOfMemory h = tt
  opens-refused InvalidData h =
      at old.file.told (subst (λ o. IfSome o (λ bytes. whole_entry bytes old.keys (entry_listed x) ≡ None)) was.reads.file.told
      (subst (λ (k : FileKeys). IfSome now.file.told (λ bytes. whole_entry bytes k (entry_listed x) ≡ None))
      was.reads.keys h)) was.so_far
    where
      at : (o : Option (List ℕ)) → IfSome o (λ bytes. whole_entry bytes old.keys (entry_listed x) ≡ None)
          → IfSome o (λ bytes. with_items made (whole_listed old.keys (x ∷ left) bytes) ≡ whole_listed old.keys all bytes)
          → IfSome o (λ bytes. whole_listed old.keys all bytes ≡ None)
      at None h s = tt
      at (Some bytes) h s = each-stops (whole_entry bytes old.keys) made (entry_listed x) (map entry_listed left) _ h s
  opens-refused ReadFault h = rose-earlier old.file.faults now.file.faults next.file.faults was.reads.file.later h
    where
      rose-earlier : (a b c : ℕ) → a ≤ b → Rose b c → Rose a c
      rose-earlier a b c h r = omega (arith, h, r)
  opens-refused _ h = absurd h

-- nothing is left
pub none-left : {A : Type 0} (xs : List A) (n : ℕ) → n ≡ 0 → n ≡ length xs → xs ≡ []
none-left [] n e f = refl
none-left (x ∷ xs) n e f = absurd (omega arith)

-- the first of those that are left was read, and no more than are listed
pub read-next : (all : List Listed) (old now next : SeenReader) (some left : List Listed) (x : Listed) (made : List Column)
    → OpensFrom all old now some made → some ≡ x ∷ left → Reads 1 now next → Reads (length all) old next
read-next all old now next some left x made was steps kept =
    next-read all old now next x left made (subst (λ ps. OpensFrom all old now ps made) steps was) kept

-- each of them was read at most once
pub all-read : (all : List Listed) (old now : SeenReader) (left : List Listed) (made : List Column)
    → OpensFrom all old now left made → Reads (length all) old now
all-read all old now left made was = reads-most (length made) (length all) old now (omega (arith, was.few)) was.reads

-- all columns
pub opens-all : (all : List Listed) (old now : SeenReader) (cs : List OpenColumn) (made : List Column)
    → OpensFrom all old now [] made → map column_of cs ≡ made
    → IfSome old.file.told (λ bytes. IsExpected (λ ps columns. map column_of columns ≡ ps) cs (whole_listed old.keys all bytes))
opens-all all old now cs made was is = at old.file.told was.so_far
  where
    with_total : (total : Option (List Column)) → Some (made ++ []) ≡ total
        → IsExpected (λ ps columns. map column_of columns ≡ ps) cs total
    with_total total e = subst (IsExpected (λ ps columns. map column_of columns ≡ ps) cs) e (is ∙ sym (append-nil made))

    at : (o : Option (List ℕ)) → IfSome o (λ bytes. with_items made (Some []) ≡ whole_listed old.keys all bytes)
        → IfSome o (λ bytes. IsExpected (λ ps columns. map column_of columns ≡ ps) cs (whole_listed old.keys all bytes))
    at None s = tt
    at (Some bytes) s = with_total (whole_listed old.keys all bytes) s
