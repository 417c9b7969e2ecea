-- Columns that are put one behind another.
use Rattle.std.proofs.Common.{◌≡◌, ℕ, ◌+◌, ◌^◌, ◌<◌, List, [], ◌∷◌, ◌++◌, length, map, flat_map, Result, Ok, Err, refl, sym, ap, ◌∙◌, append_assoc, append-nil, length-append, subst}
use Rattle.std.specs.List.{AllByRecursion}
use Rattle.std.proofs.lemmas.List.Concat.{flat_map-cons}
use Rattle.col_common.specs.Outside.{SeenSink}
use Rattle.col_common.specs.Serializing.{Serializes}
use Rattle.col_common.specs.declared.error.ColumnarError.{ColumnarError}
use Rattle.col_common.specs.declared.error.ColumnarError.TheVariants.{OutOfMemory}
use Rattle.col_common.proofs.SerializingLemmas.{serializes-as, serializes-no_memory, serializes-nothing, serializes-refused, serializes-then}
use Rattle.col_model.specs.Keys.{Key}
use Rattle.col_model.specs.Spelling.{keyed_length_bytes, keyed_lengths}
use Rattle.col_model.specs.U64List.{joined_lists}
use Rattle.col_keys.specs.Put.{PutColumns, no_columns, with_column, Puts, HavePut}

-- ---- one column

-- a column whose bytes were written, and that was listed or not
pub puts-listed : (a b : SeenSink) (old new : PutColumns) (done end : Unit {0}) (key : Key) (bytes : List ℕ)
    → Serializes a b (Ok done) bytes → new ≡ with_column old key (length bytes) → length bytes < 2 ^ 64
    → Puts old new a b (Ok end) key bytes
puts-listed a b old new done end key bytes h listed fits = record {
  written =
      serializes-as a b (Ok end) (bytes ++ []) bytes
      (serializes-then a b b done (Ok end) bytes [] h (serializes-nothing b end)) (append-nil bytes);
  listed = listed;
  fits = fits;
  kept = tt;
}

-- a column that is written, and isn't listed for want of memory
pub puts-unlisted : (a b : SeenSink) (old new : PutColumns) (done : Unit {0}) (key : Key) (bytes : List ℕ)
    → Serializes a b (Ok done) bytes → new ≡ old → Puts old new a b (Err OutOfMemory) key bytes
puts-unlisted a b old new done key bytes h kept = record {
  written = serializes-refused a b b done OutOfMemory bytes bytes bytes h (serializes-no_memory b bytes);
  listed = tt;
  fits = tt;
  kept = kept;
}

-- a column whose bytes were refused
pub puts-refused : (a b : SeenSink) (columns : PutColumns) (e : ColumnarError) (key : Key) (bytes : List ℕ)
    → Serializes a b (Err e) bytes → Puts columns columns a b (Err e) key bytes
puts-refused a b columns e key bytes h = record { written = h; listed = tt; fits = tt; kept = refl }

-- a column that is put with some bytes is put with equal ones
pub puts-as :
    (a b : SeenSink) (old new : PutColumns) (result : Result (Unit {0}) ColumnarError) (key : Key) (xs ys : List ℕ)
    → Puts old new a b result key xs → xs ≡ ys → Puts old new a b result key ys
puts-as a b old new result key xs ys puts e = subst (λ bytes. Puts old new a b result key bytes) e puts

-- ---- columns behind columns

-- before the first column none is put
pub have-none : (a : SeenSink) → HavePut a a no_columns []
have-none a = record { written = serializes-nothing a tt; table = refl; count = refl; fit = tt }

joined-push : (ps : List (Key × List ℕ)) (p : Key × List ℕ)
    → joined_lists (map (λ q. q.1) ps) ++ p.1 ≡ joined_lists (map (λ q. q.1) (ps ++ p ∷ []))
joined-push [] p = sym (append-nil p.1)
joined-push (q ∷ ps) p = append_assoc q.1 (joined_lists (map (λ r. r.1) ps)) p.1 ∙ ap (λ r. q.1 ++ r) (joined-push ps p)

entries-push : (ps : List (Key × List ℕ)) (p : Key × List ℕ)
    → flat_map keyed_length_bytes (keyed_lengths ps) ++ keyed_length_bytes (p.0, length p.1)
    ≡ flat_map keyed_length_bytes (keyed_lengths (ps ++ p ∷ []))
entries-push [] p = sym (flat_map-cons keyed_length_bytes (p.0, length p.1) [] ∙ append-nil (keyed_length_bytes (p.0, length p.1)))
entries-push (q ∷ ps) p =
    ap (λ r. r ++ keyed_length_bytes (p.0, length p.1)) (flat_map-cons keyed_length_bytes (q.0, length q.1) (keyed_lengths ps))
    ∙ append_assoc (keyed_length_bytes (q.0, length q.1)) (flat_map keyed_length_bytes (keyed_lengths ps))
    (keyed_length_bytes (p.0, length p.1))
    ∙ ap (λ r. keyed_length_bytes (q.0, length q.1) ++ r) (entries-push ps p)
    ∙ sym (flat_map-cons keyed_length_bytes (q.0, length q.1) (keyed_lengths (ps ++ p ∷ [])))

fit-push : (ps : List (Key × List ℕ)) (p : Key × List ℕ) → AllByRecursion (λ q. length q.1 < 2 ^ 64) ps
    → length p.1 < 2 ^ 64 → AllByRecursion (λ q. length q.1 < 2 ^ 64) (ps ++ p ∷ [])
fit-push [] p all h = (h, tt)
fit-push (q ∷ ps) p all h = (all.0, fit-push ps p all.1 h)

-- one more column
pub have-more : (start a b : SeenSink) (old new : PutColumns) (ps : List (Key × List ℕ)) (key : Key) (bytes : List ℕ)
    (done : Unit {0}) → HavePut start a old ps → Puts old new a b (Ok done) key bytes
    → HavePut start b new (ps ++ (key, bytes) ∷ [])
have-more start a b old new ps key bytes done have puts = record {
  written =
      serializes-as start b (Ok tt) _ _
      (serializes-then start a b tt (Ok tt) (joined_lists (map (λ q. q.1) ps)) bytes have.written puts.written)
      (joined-push ps (key, bytes));
  table = ap (λ c. c.table) puts.listed ∙ ap (λ r. r ++ keyed_length_bytes (key, length bytes)) have.table ∙ entries-push ps (key, bytes);
  count = ap (λ c. c.count) puts.listed ∙ ap (λ n. n + 1) have.count ∙ sym (length-append ps ((key, bytes) ∷ []));
  fit = fit-push ps (key, bytes) have.fit puts.fits;
}

-- a refused column ends the file
pub have-refused : (start a b : SeenSink) (old new : PutColumns) (ps : List (Key × List ℕ)) (key : Key)
    (bytes zs : List ℕ) (e : ColumnarError) → HavePut start a old ps → Puts old new a b (Err e) key bytes
    → Serializes start b (Err e) zs
have-refused start a b old new ps key bytes zs e have puts =
    serializes-refused start a b tt e (joined_lists (map (λ q. q.1) ps)) bytes zs have.written puts.written
