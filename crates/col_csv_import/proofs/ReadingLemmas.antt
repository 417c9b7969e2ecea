-- What a read leaves of a reader of a text.
use Rattle.std.proofs.Common.{◌≡◌, ◌≢◌, ◌∙◌, ◌≤◌, Bor, ℕ, Bool, true, false, List, [], ◌∷◌, length, Some, None, IfSome, Ok, Err, refl, sym, ap, ap₂, subst, inl, arith}
use Rattle.std.specs.Prelude.{Option, unwrap_or}
use Rattle.std.proofs.lemmas.Bool.{false≢true, true≢false}
use Rattle.csv.specs.Machine.{Read, next_record, ends_at_end}
use Rattle.csv.specs.Reading.{ExplainsRead, NextIs, ReadRecord, Ready, TookRecord, default_config, expected_len, has_failed, is_flexible, pending_of, reader_state, reader_trim, records, source_of, strip_bom, took_first}
use Rattle.csv.specs.Reading as csv
use Rattle.csv.specs.declared.parser.State.{State}
use Rattle.csv.specs.declared.parser.State.TheVariants as st
use Rattle.csv.specs.declared.error.ErrorKind.{ErrorKind}
use Rattle.csv.specs.declared.error.ErrorKind.TheVariants as kinds
use Rattle.csv.specs.declared.reader.Trim.TheVariants as trim
use Rattle.col_csv.specs.declared.csv_error.CsvError.{CsvError}
use Rattle.col_csv_import.specs.Readers.{IsReading, IsUneven, ReadsRecord, TextReader, TookFields, left_of, refusal_of_kind, text_left}
use Rattle.col_csv_import.proofs.ReaderLemmas.{left_from, left-all, left-few, left-none, left-read, strip-few}
use Rattle.col_csv_import.proofs.StepLemmas.{read-is}

-- what a reader tells of the bytes left
abbrev rem : Bor (List ℕ) → Option (List ℕ)
rem s = Some s.now

-- the records that are left, by the bytes that are
pub left-is : (rdr : TextReader) (xs : List ℕ) → text_left rdr ≡ Some xs → left_of rdr ≡ left_from (reader_state rdr) xs
unfolding left_of
left-is rdr xs e = ap (λ o. left_from (reader_state rdr) (unwrap_or o [])) e

-- a read from known bytes that found a record
record Found (s : State) (xs : List ℕ) (fields : List (List ℕ)) (t : State) (after : Option (List ℕ)) : Type 0 where
  next : Read
  is : next_record default_config s [] [] xs ≡ Some next
  same : fields ≡ next.0
  state : t ≡ next.1
  rest : after ≡ Some next.2

-- what a record that was found says of the bytes
found-next : (o : Option Read) (s : State) (xs : List ℕ) (fields : List (List ℕ)) (t : State) (ys : List ℕ)
    → next_record default_config s [] [] xs ≡ o → NextIs o true fields t ys → Found s xs fields t (Some ys)
found-next None s xs fields t ys e h = absurd (false≢true (sym h))
found-next (Some p) s xs fields t ys e h = record { next = p; is = e; same = h.1; state = h.2; rest = ap Some h.3 }

-- the same, where what is left is known
found-read : (s : State) (xs : List ℕ) (fields : List (List ℕ)) (t : State) (after : Option (List ℕ))
    → csv.ReadsNext default_config s (Some xs) after true fields t → Found s xs fields t after
found-read s xs fields t None h = absurd h
found-read s xs fields t (Some ys) h = found-next (next_record default_config s [] [] xs) s xs fields t ys refl h

-- none was found of what is next
none-next : (o : Option Read) (fields : List (List ℕ)) (t : State) (ys : List ℕ) → NextIs o false fields t ys → o ≡ None
none-next None fields t ys h = refl
none-next (Some p) fields t ys h = absurd (false≢true h.0)

-- the same, where what is left is known
none-read : (s : State) (xs : List ℕ) (fields : List (List ℕ)) (t : State) (after : Option (List ℕ))
    → csv.ReadsNext default_config s (Some xs) after false fields t → next_record default_config s [] [] xs ≡ None
none-read s xs fields t None h = absurd h
none-read s xs fields t (Some ys) h = none-next (next_record default_config s [] [] xs) fields t ys h

-- a read from a reader of a text, by the bytes that it has left
read-known : (old : TextReader) (h : IsReading old) (after : Option (List ℕ)) (found : Bool) (fields : List (List ℕ)) (t : State)
    → csv.ReadsNext old.config old.state (source_of rem old) after found fields t
    → csv.ReadsNext default_config old.state (Some h.text) after found fields t
read-known old h after found fields t r =
    subst (λ o. csv.ReadsNext default_config old.state o after found fields t) h.left
    (subst (λ cfg. csv.ReadsNext cfg old.state (source_of rem old) after found fields t) h.config r)

-- no record was found
pub read-none : (old new : TextReader) (fields : List (List ℕ)) → IsReading old → ReadRecord rem old new false fields
    → left_of old ≡ []
read-none old new fields h r =
    left-is old h.text h.left ∙ left-none old.state h.text
    (none-read old.state h.text fields new.state (pending_of (rem new.rdr) new) (read-known old h _ false fields new.state r.0))

-- what stands in one option stands in an equal one
same-some : {A : Type 0} (d x y : A) → Some x ≡ Some y → x ≡ y
same-some d x y e = ap (λ o. unwrap_or o d) e

-- the first record's length is that of each other one
same-length : (o : Option ℕ) (p : Option ℕ) (n : ℕ) → IfSome o (λ e. p ≡ Some e) → p ≡ Some n → IfSome o (λ e. e ≡ n)
same-length None p n h e = tt
same-length (Some m) p n h e = same-some 0 m n (sym h ∙ e)

-- a record was found
pub read-some : (old new : TextReader) (fields : List (List ℕ)) → IsReading old → ReadRecord rem old new true fields
    → took_first new ≡ true → is_flexible new ≡ is_flexible old → has_failed new ≡ has_failed old → TookFields old new fields
read-some old new fields h r first flexible failed =
    let f = found-read old.state h.text fields new.state (pending_of (rem new.rdr) new)
    (read-known old h _ true fields new.state r.0) in
    let own = read-is old.state [] [] h.text f.next f.is in
    let left : text_left new ≡ Some f.next.2 = rw r.1 f.rest in
    let width = r.5 refl h.flexible in
    record {
      reading = record {
        ready = inl first;
        trim = r.3 ∙ h.trim;
        flexible = flexible ∙ h.flexible;
        config = r.2 ∙ h.config;
        sound = failed ∙ h.sound;
        text = f.next.2;
        left = left;
        between = ap ends_at_end f.state ∙ own.between;
      };
      left =
          left-is old h.text h.left ∙ left-read old.state h.text f.next h.between f.is
          ∙ ap₂ (λ x xs. x ∷ xs) (sym f.same)
          (ap (λ s. left_from s f.next.2) (sym f.state) ∙ sym (left-is new f.next.2 left));
      width = width.1;
      same = same-length (expected_len old) (expected_len new) (length fields) width.0 width.1;
    }

-- the next record has another length
pub read-uneven : (old new : TextReader) (expected len : ℕ) → IsReading old
    → (is_flexible old ≡ false) × (expected_len old ≡ Some expected) × (expected ≢ len)
    × (fields : List (List ℕ)) × TookRecord rem old new fields × (length fields ≡ len) → IsUneven old
read-uneven old new expected len h (flexible, first, other, fields, took, long) =
    let f = found-read old.state h.text fields new.state (pending_of (rem new.rdr) new)
    (read-known old h _ true fields new.state took) in
    record {
      fields = f.next.0;
      rest = left_from f.next.1 f.next.2;
      left = left-is old h.text h.left ∙ left-read old.state h.text f.next h.between f.is;
      width = expected;
      expected = first;
      other = λ e. other (e ∙ ap length (sym f.same) ∙ long);
    }

-- the records of a text whose reader has begun nothing
pub reader-left : (rdr : TextReader) (text : List ℕ) → text_left rdr ≡ Some (strip_bom text) → reader_state rdr ≡ st.StartRecord
    → left_of rdr ≡ records default_config (strip_bom text)
reader-left rdr text e s =
    left-is rdr (strip_bom text) e ∙ ap (λ s. left_from s (strip_bom text)) s ∙ left-all (strip_bom text)

-- they are no more than its bytes
pub reader-few : (rdr : TextReader) (text : List ℕ) → text_left rdr ≡ Some (strip_bom text) → length (left_of rdr) ≤ length text
reader-few rdr text e =
    omega (arith, ap length (left-is rdr (strip_bom text) e), left-few (reader_state rdr) (strip_bom text), strip-few text)

-- what a read answers
pub read-answered : (old new : TextReader) (fields : List (List ℕ)) (found : Bool) → IsReading old
    → (reader_trim old ≡ trim.None → Ready old → ReadRecord rem old new found fields)
    → (reader_trim old ≡ trim.None → took_first new ≡ true) → is_flexible new ≡ is_flexible old → has_failed new ≡ has_failed old
    → ReadsRecord old new fields (Ok found)
read-answered old new fields true h reads first flexible failed =
    read-some old new fields h (reads h.trim h.ready) (first h.trim) flexible failed
read-answered old new fields false h reads first flexible failed = read-none old new fields h (reads h.trim h.ready)

-- what it refuses
pub read-refused : (old new : TextReader) (fields : List (List ℕ)) (kind k : ErrorKind) (e : CsvError) → IsReading old
    → k ≡ kind → e ≡ refusal_of_kind k → (Ready old → ExplainsRead rem old new false kind) → ReadsRecord old new fields (Err e)
read-refused old new fields kind k e h same is why =
    subst (λ e. ReadsRecord old new fields (Err e)) (sym (is ∙ ap refusal_of_kind same)) (by kind (why h.ready))
  where
    by : (kind : ErrorKind) → ExplainsRead rem old new false kind → ReadsRecord old new fields (Err (refusal_of_kind kind))
    by (kinds.UnequalLengths pos expected len) w = read-uneven old new expected len h w
    by _ w = tt

-- no record was found
pub answered-none : (old new : TextReader) (fields : List (List ℕ)) (b : Bool) → b ≡ false → ReadsRecord old new fields (Ok b)
    → left_of old ≡ []
answered-none old new fields true e r = absurd (true≢false e)
answered-none old new fields false e r = r

-- a record was found
pub answered-some : (old new : TextReader) (fields : List (List ℕ)) (b : Bool) → b ≡ true → ReadsRecord old new fields (Ok b)
    → TookFields old new fields
answered-some old new fields true e r = r
answered-some old new fields false e r = absurd (false≢true e)
