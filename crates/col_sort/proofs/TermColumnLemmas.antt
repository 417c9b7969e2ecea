-- Columns of terms by their category.
use Rattle.std.proofs.Common.{◌≡◌, ℕ, Bool, List, [], ◌∷◌, Option, Some, refl}
use Rattle.std.specs.Prelude.{true, None}
use Rattle.col_model.specs.Category.{Category}
use Rattle.col_model.specs.Category as categories
use Rattle.col_model.specs.ColumnType.{has_terms}
use Rattle.col_dynamic.specs.Dynamic.{type_of}
use Rattle.col_dynamic.specs.declared.dynamic_column.DynamicColumn.{DynamicColumn}
use Rattle.col_dynamic.specs.declared.dynamic_column.DynamicColumn.TheVariants as columns
use Rattle.col_sort.specs.Texts.{HaveTerms, SortsTexts}
use Rattle.col_sort.specs.Columns.{AreOf, SortsColumns}
use Rattle.col_merge_slot.specs.Segments.{IsOfCategory}

str-has : (c : DynamicColumn) → IsOfCategory categories.str c → has_terms (type_of c) ≡ true
str-has (columns.Str c) h = refl
str-has (columns.Bool c) h = absurd cc
str-has (columns.I64 c) h = absurd cc
str-has (columns.U64 c) h = absurd cc
str-has (columns.IpAddr c) h = absurd cc
str-has (columns.DateTime c) h = absurd cc
str-has (columns.Bytes c) h = absurd cc

bytes-has : (c : DynamicColumn) → IsOfCategory categories.bytes c → has_terms (type_of c) ≡ true
bytes-has (columns.Bytes c) h = refl
bytes-has (columns.Bool c) h = absurd cc
bytes-has (columns.I64 c) h = absurd cc
bytes-has (columns.U64 c) h = absurd cc
bytes-has (columns.IpAddr c) h = absurd cc
bytes-has (columns.DateTime c) h = absurd cc
bytes-has (columns.Str c) h = absurd cc

have-terms : (category : Category) → ((c : DynamicColumn) → IsOfCategory category c → has_terms (type_of c) ≡ true)
    → (os : List (Option DynamicColumn)) → AreOf category os → HaveTerms os
have-terms category has [] h = tt
have-terms category has (None ∷ os) h = (tt, have-terms category has os h.1)
have-terms category has (Some c ∷ os) h = (has c h.0, have-terms category has os h.1)

pub strs-sorted : (reversed : Bool) (os : List (Option DynamicColumn)) (ns : List ℕ) (rows : List (ℕ × ℕ))
    → SortsTexts ns os reversed rows → SortsColumns categories.str ns os reversed rows
strs-sorted reversed os ns rows s =
    record { moved = s.moved; sorted = λ all. s.sorted (have-terms categories.str str-has os all) }

pub bytes-sorted : (reversed : Bool) (os : List (Option DynamicColumn)) (ns : List ℕ) (rows : List (ℕ × ℕ))
    → SortsTexts ns os reversed rows → SortsColumns categories.bytes ns os reversed rows
bytes-sorted reversed os ns rows s =
    record { moved = s.moved; sorted = λ all. s.sorted (have-terms categories.bytes bytes-has os all) }
