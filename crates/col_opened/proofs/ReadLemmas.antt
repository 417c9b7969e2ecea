-- The columns that the bytes of a file stand for.
use Rattle.std.proofs.Common.{◌≡◌, ◌∙◌, ℕ, Bool, true, List, [], ◌∷◌, map, length, replicate, Option, Some, refl, sym, ap, ap₂}
use Rattle.std.proofs.lemmas.Option.{same_Some}
use Rattle.col_common.specs.Reading.{◌>>=◌}
use Rattle.col_model.specs.File.{PartColumn, part_column, whole_column, for_each, table_of_part, table_of}
use Rattle.col_model.specs.Keys.{Entry, FileKeys, keys}
use Rattle.col_model.specs.Sound.{key_of_column}
use Rattle.col_model.specs.Table.{Content, Column, Table}
use Rattle.col_model.proofs.DecodedNumbers.{step-of}
use Rattle.col_model.proofs.FileLaws.{parts_of-keys}
use Rattle.col_opened.specs.Chosen.{chosen, part_where, table_where, whole_entry}
use Rattle.col_opened.proofs.ChosenLemmas.{chosen-map, chosen-all}

-- ---- the keys of columns

-- a column has its entry's key
whole-key : (bytes : List ℕ) (k : FileKeys) (e : Entry) (c : Column) → whole_entry bytes k e ≡ Some c → key_of_column c ≡ e.key
whole-key bytes k e c h =
    let p = part_column bytes k e in
    let made : Content → Column = λ content. record { name = p.name; column_type = p.column_type; content = content } in
    let a = step-of p.content (λ content. Some (made content)) c h in
    ap key_of_column (sym (same_Some (made a.x) c a.rest))

-- columns have their entries' keys
pub whole-keys : (bytes : List ℕ) (k : FileKeys) (es : List Entry) (cs : List Column)
    → for_each (whole_entry bytes k) es ≡ Some cs → map key_of_column cs ≡ map (λ e. e.key) es
whole-keys bytes k [] cs h = ap (map key_of_column) (sym (same_Some [] cs h))
whole-keys bytes k (e ∷ es) cs h =
    let whole = whole_entry bytes k in
    let a = step-of (whole e) (λ y. for_each whole es >>= λ ys. Some (y ∷ ys)) cs h in
    let b = step-of (for_each whole es) (λ ys. Some (a.x ∷ ys)) cs a.rest in
    ap (map key_of_column) (sym (same_Some (a.x ∷ b.x) cs b.rest))
    ∙ ap₂ (λ key keys. key ∷ keys) (whole-key bytes k e a.x a.first) (whole-keys bytes k es b.x b.first)

-- ---- the table of a file

for_each-map : {A B C : Type 0} (f : B → Option C) (g : A → B) (xs : List A) → for_each f (map g xs) ≡ for_each (λ x. f (g x)) xs
for_each-map f g [] = refl
for_each-map {C = C} f g (x ∷ xs) = ap (λ (o : Option (List C)). f (g x) >>= λ y. o >>= λ ys. Some (y ∷ ys)) (for_each-map f g xs)

abbrev pub table_with : FileKeys → List Column → Option Table
table_with k cs = Some (record { row_count = k.row_count; columns = cs })

-- bytes that end with these keys stand for the table of the columns that are chosen
pub table-read : (wanted : List Bool) (bytes : List ℕ) (k : FileKeys) → keys bytes ≡ Some k
    → table_where wanted bytes ≡ (for_each (whole_entry bytes k) (chosen wanted k.entries) >>= table_with k)
table-read wanted bytes k e =
    ap (λ o. o >>= λ p. table_of_part (part_where wanted p)) (parts_of-keys bytes k e)
    ∙ ap (λ (cs : List PartColumn). for_each whole_column cs >>= table_with k)
    (chosen-map (part_column bytes k) wanted k.entries)
    ∙ ap (λ o. o >>= table_with k) (for_each-map whole_column (part_column bytes k) (chosen wanted k.entries))

-- where each flag is set, it is the table of the file
pub table-whole : (bytes : List ℕ) (k : FileKeys) (n : ℕ) → keys bytes ≡ Some k → n ≡ length k.entries
    → table_where (replicate n true) bytes ≡ table_of bytes
table-whole bytes k n e m =
    ap (λ o. o >>= λ p. table_of_part (part_where (replicate n true) p)) (parts_of-keys bytes k e)
    ∙ ap (λ cs. table_of_part (record { row_count = k.row_count; columns = cs }))
    (ap (λ n. chosen (replicate n true) (map (part_column bytes k) k.entries)) m
    ∙ chosen-map (part_column bytes k) (replicate (length k.entries) true) k.entries
    ∙ ap (map (part_column bytes k)) (chosen-all k.entries))
    ∙ ap (λ o. o >>= table_of_part) (sym (parts_of-keys bytes k e))
