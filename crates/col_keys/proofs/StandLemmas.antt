-- What a file stands for whose columns were put.
use Rattle.std.proofs.Common.{◌≡◌, ℕ, List, map, Some, ap, ◌∙◌, [], ◌∷◌, refl, sym}
use Rattle.col_common.specs.Reading.{◌>>=◌}
use Rattle.col_model.specs.File.{table_of_part, part_of_column, StandsFor, PartColumn}
use Rattle.col_model.specs.Keys.{Key}
use Rattle.col_model.specs.Table.{Column}
use Rattle.col_model.proofs.PartLaws.{columns-whole}
use Rattle.col_model.specs.Sound.{key_of_column}
use Rattle.col_keys.specs.Put.{part_put, HasColumns}

-- a file that has columns stands for their table
pub stands-for : (file : List ℕ) (n : ℕ) (ps : List (Key × List ℕ)) (cs : List Column) → HasColumns file n ps
    → map (part_put n) ps ≡ map part_of_column cs → StandsFor (record { row_count = n; columns = cs }) file
stands-for file n ps cs h e = record {
  content = ap (λ o. o >>= table_of_part) (h.columns ∙ ap (λ parts. Some (record { row_count = n; columns = parts })) e)
      ∙ ap (λ o. o >>= λ columns. Some (record { row_count = n; columns = columns })) (columns-whole cs);
  version = ap (λ o. o >>= λ k. Some k.version) h.entries;
}

-- the keys under which they were put
pub same-keys : (n : ℕ) (ps : List (Key × List ℕ)) (cs : List Column) → map (part_put n) ps ≡ map part_of_column cs
    → map (λ p. p.0) ps ≡ map key_of_column cs
same-keys n ps cs same =
    let key : PartColumn → Key = λ c. record { name = c.name; column_type = c.column_type } in
    sym (of-put ps) ∙ ap (map key) same ∙ of-columns cs
  where
    of-put : (ps : List (Key × List ℕ))
        → map (λ (c : PartColumn). record { name = c.name; column_type = c.column_type }) (map (part_put n) ps)
        ≡ map (λ p. p.0) ps
    of-put [] = refl
    of-put (p ∷ ps) = ap (λ ks. p.0 ∷ ks) (of-put ps)

    of-columns : (cs : List Column)
        → map (λ (c : PartColumn). record { name = c.name; column_type = c.column_type }) (map part_of_column cs)
        ≡ map key_of_column cs
    of-columns [] = refl
    of-columns (c ∷ cs) = ap (λ ks. key_of_column c ∷ ks) (of-columns cs)
