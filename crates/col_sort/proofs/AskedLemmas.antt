-- Rows by the columns of the category of a type.
use Rattle.std.proofs.Common.{◌≡◌, ◌⊎◌, inl, inr, ℕ, Bool, List, Option, sym, subst}
use Rattle.col_model.specs.Category.{category_of}
use Rattle.col_model.specs.Category as categories
use Rattle.col_types.specs.Kinds.{kind_of}
use Rattle.col_types.specs.declared.column_type.ColumnType.{ColumnType}
use Rattle.col_types.specs.declared.column_type.ColumnType.TheVariants as types
use Rattle.col_dynamic.specs.declared.dynamic_column.DynamicColumn.{DynamicColumn}
use Rattle.col_sort.specs.Columns.{SortsColumns}
use Rattle.col_sort.specs.Texts.{SortsTexts}
use Rattle.col_sort.proofs.TermColumnLemmas.{strs-sorted, bytes-sorted}

module _ (t : ColumnType) (ns : List ℕ) (os : List (Option DynamicColumn)) (reversed : Bool) (rows : List (ℕ × ℕ)) where
  -- of the category of a type
  type-of-one : (u : ColumnType) → t ≡ u → SortsColumns (category_of (kind_of u)) ns os reversed rows
      → SortsColumns (category_of (kind_of t)) ns os reversed rows
  type-of-one u e h = subst (λ t. SortsColumns (category_of (kind_of t)) ns os reversed rows) (sym e) h

  pub numbers-of : (t ≡ types.I64) ⊎ (t ≡ types.U64) → SortsColumns categories.numerical ns os reversed rows
      → SortsColumns (category_of (kind_of t)) ns os reversed rows
  numbers-of (inl e) h = type-of-one types.I64 e h
  numbers-of (inr e) h = type-of-one types.U64 e h

  pub terms-of : (t ≡ types.Str) ⊎ (t ≡ types.Bytes) → SortsTexts ns os reversed rows
      → SortsColumns (category_of (kind_of t)) ns os reversed rows
  terms-of (inl e) h = type-of-one types.Str e (strs-sorted reversed os ns rows h)
  terms-of (inr e) h = type-of-one types.Bytes e (bytes-sorted reversed os ns rows h)

-- of the category of a type
pub type-of : (t u : ColumnType) (ns : List ℕ) (os : List (Option DynamicColumn)) (reversed : Bool) (rows : List (ℕ × ℕ))
    → t ≡ u → SortsColumns (category_of (kind_of u)) ns os reversed rows → SortsColumns (category_of (kind_of t)) ns os reversed rows
type-of t u ns os reversed rows e h = type-of-one t ns os reversed rows u e h
