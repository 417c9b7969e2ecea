-- The end of a file, part by part.
use Rattle.std.proofs.Common.{◌≡◌, ℕ, ◌+◌, ◌-◌, ◌<◌, ◌≤◌, ◌==◌, Bool, true, false, List, length, take, drop, slice_range, Option, Some, None, Result, Ok, Err, IfSome, IfOk, refl, sym, ap, ◌∙◌, subst, arith}
use Rattle.std.specs.List.{AllByRecursion}
use Rattle.std.proofs.lemmas.Bool.{le-leb, lt-leb, eqb-true}
use Rattle.std.proofs.lemmas.List.{length-take, length-take-le, length-drop, take_all, drop-take}
use Rattle.std.proofs.lemmas.Option.{same_Some}
use Rattle.col_common.specs.Reading.{◌>>=◌, only_if, back}
use Rattle.col_common.specs.Decoding.{Decodes}
use Rattle.col_common.specs.declared.error.ColumnarError.{ColumnarError}
use Rattle.col_common.specs.declared.error.ColumnarError.TheVariants.{OutOfMemory, InvalidData}
use Rattle.col_model.specs.Keys.{Key, FileFooter, FileKeys, entries_from, file_footer, key_table, keys, total_length}
use Rattle.col_file.specs.Ends.{keys_found, keys_behind}
use Rattle.col_common.specs.Outside.{SeenFile, IsToldWhole}
use Rattle.col_file.specs.Files.{IsExpected, AnswersForHandle}
use Rattle.col_file.specs.Readers.{IsWithin}
use Rattle.col_file.proofs.PlaceLemmas.{within-entries}

-- ---- last bytes

module _ (k n : ℕ) (bytes : List ℕ) (long : n + k ≡ length bytes) where
  back-is : back k bytes ≡ Some (take n bytes, drop n bytes)
  back-is =
      let cut : length bytes - k ≡ n = omega arith in
      let fits : k ≤ length bytes = omega arith in
      rw (cut, le-leb k (length bytes) fits) refl

back-none : (k : ℕ) (bytes : List ℕ) → length bytes < k → back k bytes ≡ None
back-none k bytes h = rw (lt-leb k (length bytes) h) refl

-- the bytes from one place to the end
range-end : (n m : ℕ) (bytes : List ℕ) → m ≡ length bytes → slice_range bytes n m ≡ drop n bytes
range-end n m bytes e = take_all (m - n) (drop n bytes) (omega (arith, length-drop n bytes))

-- the bytes between two places
range-take : (b k n : ℕ) (bytes : List ℕ) → b + k ≡ n → drop b (take n bytes) ≡ slice_range bytes b n
range-take b k n bytes e =
    let apart : k ≡ n - b = omega arith in
    ap (λ m. drop b (take m bytes)) (sym e) ∙ drop-take b k bytes ∙ ap (λ m. take m (drop b bytes)) apart

-- ---- the footer and the key table

pub too_short : (bytes : List ℕ) → length bytes < 20 → keys bytes ≡ None
unfolding keys
too_short bytes h = rw (back-none 20 bytes h) refl

module _ (bytes : List ℕ) (n m : ℕ) (long : n + 20 ≡ length bytes) (end_ : m ≡ length bytes) where
  footed : (o : Option FileFooter) → file_footer (slice_range bytes n m) ≡ o → file_footer (drop n bytes) ≡ o
  footed o e = ap file_footer (sym (range-end n m bytes end_)) ∙ e

  pub no_footer : file_footer (slice_range bytes n m) ≡ None → keys bytes ≡ None
  unfolding keys
  no_footer e = rw (back-is 20 n bytes long, footed None e) refl

  module _ (f : FileFooter) (read : file_footer (slice_range bytes n m) ≡ Some f) where
    pub no_table : n < f.table_length → keys bytes ≡ None
    unfolding keys
    no_table h =
        rw (
          back-is 20 n bytes long,
          footed (Some f) read,
          back-none f.table_length (take n bytes) (omega (arith, length-take n bytes)),
        ) refl

    pub keys-read : (b : ℕ) → b + f.table_length ≡ n → keys bytes ≡ keys_behind f b (slice_range bytes b n)
    unfolding keys
    keys-read b e =
        let front : length (take n bytes) ≡ n = length-take-le n bytes (omega arith) in
        let body : length (take b (take n bytes)) ≡ b = length-take-le b (take n bytes) (omega arith) in
        let cut : b + f.table_length ≡ length (take n bytes) = omega arith in
        rw (
          back-is 20 n bytes long,
          footed (Some f) read,
          back-is f.table_length b (take n bytes) cut,
          range-take b f.table_length n bytes e,
        )
        (ap (λ k. key_table (slice_range bytes b n) >>= keys_found f k) body)

-- ---- what a key table gives

pub found-within : (f : FileFooter) (b size : ℕ) (table : List ℕ) (k : FileKeys) → b ≤ size
    → keys_behind f b table ≡ Some k → AllByRecursion (IsWithin size) k.entries
found-within f b size table k h e = with_table (key_table table) e
  where
    tested : (ps : List (Key × ℕ)) (t : Bool) → (total_length ps == b) ≡ t
        → only_if {A = FileKeys} t
        (record { row_count = f.row_count; version = f.version; entries = entries_from 0 ps }) ≡ Some k
        → AllByRecursion (IsWithin size) k.entries
    tested ps true all g =
        let same : total_length ps ≡ b = eqb-true (total_length ps) b all in
        subst (λ (j : FileKeys). AllByRecursion (IsWithin size) j.entries) (same_Some {A = FileKeys} _ k g)
        (within-entries 0 size ps (omega arith))
    tested ps false all g = cc

    with_table : (o : Option (List (Key × ℕ))) → (o >>= keys_found f b) ≡ Some k → AllByRecursion (IsWithin size) k.entries
    with_table None g = cc
    with_table (Some ps) g = tested ps (total_length ps == b) refl g

-- ---- the same where a file tells its bytes

module _ (file : SeenFile) (whole : IsToldWhole file) where
  -- a file of fewer than 20 bytes has no keys
  pub told-too_short : file.size < 20 → IfSome file.told (λ bytes. keys bytes ≡ None)
  told-too_short h = at file.told whole
    where
      at : (o : Option (List ℕ)) → IfSome o (λ bytes. length bytes ≡ file.size) → IfSome o (λ bytes. keys bytes ≡ None)
      at None w = tt
      at (Some bytes) w = too_short bytes (omega arith)

  module _ (n m : ℕ) (footer : List ℕ) (long : n + 20 ≡ file.size) (end_ : m ≡ file.size)
      (part : IfSome file.told (λ bytes. footer ≡ slice_range bytes n m)) where
    -- a file whose last bytes are no footer has no keys
    pub told-no_footer : file_footer footer ≡ None → IfSome file.told (λ bytes. keys bytes ≡ None)
    told-no_footer e = at file.told whole part
      where
        at : (o : Option (List ℕ)) → IfSome o (λ bytes. length bytes ≡ file.size)
            → IfSome o (λ bytes. footer ≡ slice_range bytes n m) → IfSome o (λ bytes. keys bytes ≡ None)
        at None w p = tt
        at (Some bytes) w p = no_footer bytes n m (omega arith) (omega arith) (ap file_footer (sym p) ∙ e)

    module _ (f : FileFooter) (read : file_footer footer ≡ Some f) where
      -- a file that is shorter than the table that its footer tells has no keys
      pub told-no_table : n < f.table_length → IfSome file.told (λ bytes. keys bytes ≡ None)
      told-no_table h = at file.told whole part
        where
          at : (o : Option (List ℕ)) → IfSome o (λ bytes. length bytes ≡ file.size)
              → IfSome o (λ bytes. footer ≡ slice_range bytes n m) → IfSome o (λ bytes. keys bytes ≡ None)
          at None w p = tt
          at (Some bytes) w p = no_table bytes n m (omega arith) (omega arith) f (ap file_footer (sym p) ∙ read) h

      -- what the end says is what stands behind the columns
      pub told-read : (b : ℕ) (table : List ℕ) → b + f.table_length ≡ n
          → IfSome file.told (λ bytes. table ≡ slice_range bytes b n)
          → IfSome file.told (λ bytes. keys bytes ≡ keys_behind f b table)
      told-read b table e tabled = at file.told whole part tabled
        where
          at : (o : Option (List ℕ)) → IfSome o (λ bytes. length bytes ≡ file.size)
              → IfSome o (λ bytes. footer ≡ slice_range bytes n m)
              → IfSome o (λ bytes. table ≡ slice_range bytes b n)
              → IfSome o (λ bytes. keys bytes ≡ keys_behind f b table)
          at None w p t = tt
          at (Some bytes) w p t =
              keys-read bytes n m (omega arith) (omega arith) f (ap file_footer (sym p) ∙ read) b e
              ∙ ap (keys_behind f b) (sym t)

-- an answer of the keys that are expected
pub answers-keys : (old new : SeenFile) (o : Option FileKeys) (r : Result FileKeys ColumnarError)
    → IfSome old.told (λ bytes. keys bytes ≡ o) → Decodes (λ k. k) r o
    → AnswersForHandle (λ (expected k : FileKeys). k ≡ expected) old new r keys
answers-keys old new o (Ok k) told d = at old.told told
  where
    expected : (p q : Option FileKeys) → p ≡ q → q ≡ Some k → IsExpected (λ (expected k : FileKeys). k ≡ expected) k p
    expected None q e f = cc
    expected (Some j) q e f = sym (same_Some j k (e ∙ f))

    at : (t : Option (List ℕ)) → IfSome t (λ bytes. keys bytes ≡ o)
        → IfSome t (λ bytes. IsExpected (λ (expected k : FileKeys). k ≡ expected) k (keys bytes))
    at None h = tt
    at (Some bytes) h = expected (keys bytes) o h d
answers-keys old new o (Err OutOfMemory) told d = tt
answers-keys old new o (Err InvalidData) told d = at old.told told
  where
    at : (t : Option (List ℕ)) → IfSome t (λ bytes. keys bytes ≡ o) → IfSome t (λ bytes. keys bytes ≡ None)
    at None h = tt
    at (Some bytes) h = h ∙ d
answers-keys old new o (Err _) told d = absurd d

-- the entries that were found are among the bytes
pub answer-within : (f : FileFooter) (b size : ℕ) (table : List ℕ) (r : Result FileKeys ColumnarError) → b ≤ size
    → Decodes (λ k. k) r (keys_behind f b table) → IfOk r (λ k. AllByRecursion (IsWithin size) k.entries)
answer-within f b size table (Ok k) h d = found-within f b size table k h d
answer-within f b size table (Err e) h d = tt

-- what another state of the same file tells
pub told-same : (P : List ℕ → Type 0) (told before : Option (List ℕ)) → told ≡ before → IfSome told P → IfSome before P
told-same P told before e h = let Q : Option (List ℕ) → Type 0 = λ o. IfSome o P in subst Q e h
