-- Columns of terms whose ordinals are turned by mappings.
use Rattle.std.proofs.Common.{◌≡◌, ℕ, zero, suc, ◌<◌, List, [], ◌∷◌, length, map, zip, get_or, slice_get, slice_index, unwrap_or, Some, sym, ap, ap₂, subst, ◌∙◌, arith}
use Rattle.std.specs.Option.{option_map}
use Rattle.std.proofs.lemmas.List.{length-map}
use Rattle.std.proofs.lemmas.Option.{none-some, slice_get-map, slice_get-get_or}
use Rattle.std.proofs.lemmas.Slice.Zip.{length-zip}
use Rattle.col_model.specs.Index.{Shape}
use Rattle.col_column.specs.Columns.{row_count, IsCounted}
use Rattle.col_text.specs.Texts.{Texts}
use Rattle.col_merge_values.specs.Merges.{segment_shape, segment_values, FitsShape, AreColumns}
use Rattle.col_merge_values.specs.TermColumns.{remapped, ords_of, term_columns, remapped_columns}

-- a place in both lists
zipped-within : {A B : Type 0} (xs : List A) (ys : List B) (k : ℕ) → k < length (zip xs ys) → (k < length xs) × (k < length ys)
zipped-within [] ys k h = absurd (omega arith)
zipped-within (x ∷ xs) [] k h = absurd (omega arith)
zipped-within (x ∷ xs) (y ∷ ys) zero h = (omega arith, omega arith)
zipped-within (x ∷ xs) (y ∷ ys) (suc k) h =
    let within = zipped-within xs ys k (omega arith) in (omega (arith, within.0), omega (arith, within.1))

module _ (texts : List Texts) (mappings : List (List ℕ)) (k : ℕ) (within : k < length (remapped_columns texts mappings).lists) where
  -- a segment has a column and a mapping
  pub both-there : (k < length texts) × (k < length mappings)
  both-there = zipped-within texts mappings k (let long = length-map (zip texts mappings) (λ p. remapped p.1 (ords_of p.0)) in omega arith)

-- the values of a segment
pub segment-is : (texts : List Texts) (mappings : List (List ℕ)) (k : ℕ) (os m : List ℕ)
    → slice_get (map ords_of texts) k ≡ Some os → slice_get mappings k ≡ Some m
    → segment_values (remapped_columns texts mappings) k ≡ remapped m os
segment-is [] mappings k os m e f = absurd (none-some os e)
segment-is (t ∷ ts) [] k os m e f = absurd (none-some m f)
segment-is (t ∷ ts) (n ∷ ns) zero os m e f = ap₂ remapped (ap (λ o. unwrap_or o []) f) (ap (λ o. unwrap_or o []) e)
segment-is (t ∷ ts) (n ∷ ns) (suc k) os m e f = segment-is ts ns k os m e f

-- as many as the column has
pub remapped-length : (texts : List Texts) (mappings : List (List ℕ)) (k n : ℕ) (os : List ℕ)
    → k < length (remapped_columns texts mappings).lists → slice_get (map ords_of texts) k ≡ Some os → n ≡ length os
    → n ≡ length (segment_values (remapped_columns texts mappings) k)
remapped-length texts mappings k n os within e f =
    let m = get_or mappings k [] in
    let there = slice_get-get_or mappings k [] (both-there texts mappings k within).1 in
    f ∙ sym (ap length (segment-is texts mappings k os m e there) ∙ length-map os (slice_index m))

-- the value at a position is what the mapping has for the ordinal there
pub remapped-value : (texts : List Texts) (mappings : List (List ℕ)) (k i ord x : ℕ) (os m : List ℕ)
    → slice_get (map ords_of texts) k ≡ Some os → slice_get mappings k ≡ Some m → slice_get os i ≡ Some ord
    → x ≡ slice_index m ord → slice_get (segment_values (remapped_columns texts mappings) k) i ≡ Some x
remapped-value texts mappings k i ord x os m e f read item =
    ap (λ xs. slice_get xs i) (segment-is texts mappings k os m e f)
    ∙ slice_get-map (slice_index m) os i
    ∙ ap (option_map (slice_index m)) read
    ∙ ap Some (sym item)

-- ---- the premise of views

-- a column of turned ordinals
remapped-column : (n : ℕ) (s : Shape) (m os : List ℕ) → FitsShape n s os → FitsShape n s (remapped m os)
remapped-column n s m os is =
    let long = length-map os (slice_index m) in
    record { rows = ap (row_count s) long ∙ is.rows; counted = subst (IsCounted s) (sym long) is.counted }

-- columns of ordinals stay columns where they are turned by mappings
pub remapped-are : (counts : List ℕ) (texts : List Texts) (mappings : List (List ℕ))
    → length mappings ≡ length counts → AreColumns counts (term_columns texts)
    → AreColumns counts (remapped_columns texts mappings)
remapped-are counts texts mappings many are =
    let long = length-map texts ords_of in
    let zipped = length-map (zip texts mappings) (λ p. remapped p.1 (ords_of p.0)) ∙ length-zip texts mappings in
    record {
      shapes = are.shapes;
      lists = omega (arith, are.lists);
      each = λ k h.
          (let os = segment_values (term_columns texts) k in
          let m = get_or mappings k [] in
          let read = slice_get-get_or (map ords_of texts) k [] (omega (arith, are.lists)) in
          let mapping = slice_get-get_or mappings k [] (omega arith) in
          subst (FitsShape (get_or counts k 0) (segment_shape (term_columns texts) k)) (sym (segment-is texts mappings k os m read mapping))
          (remapped-column (get_or counts k 0) (segment_shape (term_columns texts) k) m os (are.each k h)));
    }
