-- Files of tables that are opened.
use Rattle.std.proofs.Common.{◌≡◌, ◌<◌, ℕ, zero, suc, List, [], ◌∷◌, map, length, get_or, Option, Some, None, refl, ap, arith}
use Rattle.col_common.specs.Reading.{◌>>=◌}
use Rattle.col_model.specs.File.{Part, parts_of, table_of, table_of_part, part_of_table}
use Rattle.col_model.specs.Table.{Table}
use Rattle.col_model.proofs.PartLaws.{whole-table}

-- the first item of a list, and the others
abbrev head_or : {C : Type 0} → C → List C → C
head_or c [] = c
head_or c (x ∷ xs) = x

abbrev tail_of : {C : Type 0} → List C → List C
tail_of [] = []
tail_of (x ∷ xs) = xs

-- items whose images are the same, place by place
pub same-at : {A B C : Type 0} (f : A → C) (g : B → C) (xs : List A) (ys : List B) (i : ℕ) (d : A) (e : B)
    → map f xs ≡ map g ys → i < length ys → f (get_or xs i d) ≡ g (get_or ys i e)
same-at f g [] [] i d e same within = absurd (omega arith)
same-at f g [] (y ∷ ys) i d e same within = cc
same-at f g (x ∷ xs) [] i d e same within = absurd (omega arith)
same-at f g (x ∷ xs) (y ∷ ys) zero d e same within = ap (head_or (f x)) same
same-at f g (x ∷ xs) (y ∷ ys) (suc i) d e same within = same-at f g xs ys i d e (ap tail_of same) (omega arith)
