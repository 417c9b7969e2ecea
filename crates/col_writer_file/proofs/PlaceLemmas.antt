-- What the column at a place requires, and what is put once it was.
use Rattle.std.proofs.Common.{◌≡◌, ◌<◌, ◌≤◌, ℕ, suc, List, [], ◌∷◌, ◌++◌, length, map, take, get_or, true, Ok, sym, ap, ◌∙◌, subst, arith}
use Rattle.std.specs.List.{list_all}
use Rattle.std.specs.Str.{is_utf8}
use Rattle.std.proofs.Math.ListN.{get_or-map}
use Rattle.std.proofs.lemmas.List.{length-map, take_all}
use Rattle.col_common.specs.Outside.{SeenSink}
use Rattle.col_common.specs.Ascending.{are_below}
use Rattle.col_model.specs.Refusal.{each_ok}
use Rattle.col_keys.specs.KeyTables.{key_at}
use Rattle.col_keys.specs.Put.{PutColumns}
use Rattle.col_types.specs.Kinds.{kind_of}
use Rattle.col_types.specs.declared.column_type.ColumnType.{ColumnType as Kind}
use Rattle.col_writer_file.specs.EntryColumns.{entry_in}
use Rattle.col_writer_file.specs.OnRows.{recorded_docs, content_on}
use Rattle.col_writer_file.specs.Tables.{named_entry, slot_type_of, made, PutsColumn, ArePut, PutsColumns}
use Rattle.col_writer_file.specs.declared.named_entry.NamedEntry.{NamedEntry}
use Rattle.col_writer_file.proofs.EachLemmas.{all-at, each-at, each-map}
use Rattle.col_writer_file.proofs.PutColumnLemmas.{put-more}
use Rattle.col_writer_file.proofs.TableLemmas.{made-more, types-long}

-- its documents are below the count of rows
pub below-at : (ds : List ℕ) (xs : List NamedEntry) (i : ℕ) (x : NamedEntry)
    → list_all (λ c. are_below (length ds) (recorded_docs (named_entry c).1)) xs ≡ true → i < length xs
    → x ≡ get_or xs i x → are_below (length ds) (recorded_docs (entry_in x.column)) ≡ true
below-at ds xs i x all h is =
    ap (λ (c : NamedEntry). are_below (length ds) (recorded_docs (named_entry c).1)) is
    ∙ all-at (λ c. are_below (length ds) (recorded_docs (named_entry c).1)) xs i x all h

-- it refuses nothing
pub typed-at : (ds : List ℕ) (xs : List NamedEntry) (ks : List Kind) (i : ℕ) (x : NamedEntry) (d : Kind)
    → each_ok (slot_type_of ds) (map named_entry xs) ≡ Ok (map kind_of ks) → i < length xs → x ≡ get_or xs i x
    → slot_type_of ds (named_entry x) ≡ Ok (kind_of (get_or ks i d))
typed-at ds xs ks i x d e h is =
    ap (λ (c : NamedEntry). slot_type_of ds (named_entry c)) is
    ∙ each-at (λ (c : NamedEntry). slot_type_of ds (named_entry c)) xs (map kind_of ks) i x (kind_of d)
    (sym (each-map (slot_type_of ds) named_entry xs) ∙ e) h
    ∙ ap Ok (get_or-map kind_of ks i d)

-- one more column was put
pub put-next : (start a b : SeenSink) (old new : PutColumns) (ds : List ℕ) (xs : List NamedEntry) (ks : List Kind)
    (i j : ℕ) (x : NamedEntry) (d : Kind) (done : Unit {0})
    → ArePut start a old (length ds) (made ds (map named_entry (take i xs)) (take i (map kind_of ks)))
    → PutsColumn old new a b (Ok done) (key_at x.name.now (get_or ks i d)) (length ds)
    (content_on (entry_in x.column) ds) → is_utf8 x.name.now ≡ true → i < length xs → i < length ks → j ≡ suc i
    → x ≡ get_or xs i x
    → ArePut start b new (length ds) (made ds (map named_entry (take j xs)) (take j (map kind_of ks)))
put-next start a b old new ds xs ks i j x d done have puts text h g step is =
    subst (ArePut start b new (length ds))
    ((λ p. made ds (map named_entry (take i xs)) (take i (map kind_of ks)) ++ record {
      name =
          (is p).name.now;
      column_type = sym (get_or-map kind_of ks i d) p;
      content =
          content_on (entry_in (is p).column) ds;
    } ∷ [])
    ∙ sym (made-more ds xs (map kind_of ks) i j x (kind_of d) h (omega (arith, g, length-map ks kind_of)) step))
    (put-more start a b old new (length ds) (made ds (map named_entry (take i xs)) (take i (map kind_of ks)))
    (key_at x.name.now (get_or ks i d)) (content_on (entry_in x.column) ds) done have puts text)

-- all columns were put
pub put-all : (start now : SeenSink) (file : PutColumns) (ds : List ℕ) (xs : List NamedEntry) (ks : List Kind) (i : ℕ)
    (done : Unit {0})
    → ArePut start now file (length ds) (made ds (map named_entry (take i xs)) (take i (map kind_of ks)))
    → each_ok (slot_type_of ds) (map named_entry xs) ≡ Ok (map kind_of ks) → length xs ≤ i
    → PutsColumns start now file (Ok done) (length ds) (made ds (map named_entry xs) (map kind_of ks))
put-all start now file ds xs ks i done have typed h = record {
  put =
      subst (ArePut start now file (length ds)) (λ p. made ds (map named_entry (take_all i xs h p))
      (take_all i (map kind_of ks) (omega (arith, h, length-map ks kind_of, types-long ds xs ks typed)) p)) have;
  refused = tt;
}
