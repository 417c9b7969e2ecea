-- The kinds of ends are those of categories.
use Rattle.std.proofs.Common.{◌≡◌, Bool, true, false, refl, sym, ap, ◌∙◌}
use Rattle.col_model.specs.Category.{Category, category_of}
use Rattle.col_model.specs.Category as categories
use Rattle.col_model.specs.ColumnType.{ColumnType}
use Rattle.col_model.specs.ColumnType as types
use Rattle.col_program.specs.Queries.{End, num, addr, term, is_kind}

kind_in : Category → End → Bool
kind_in categories.numerical (num z) = true
kind_in categories.bool (num z) = true
kind_in categories.datetime (num z) = true
kind_in categories.ip (addr n) = true
kind_in categories.str (term s) = true
kind_in categories.bytes (term s) = true
kind_in c e = false

by-category : (t : ColumnType) (e : End) → is_kind t e ≡ kind_in (category_of t) e
unfolding kind_in
by-category types.i64 (num z) = refl
by-category types.i64 (addr n) = refl
by-category types.i64 (term s) = refl
by-category types.u64 (num z) = refl
by-category types.u64 (addr n) = refl
by-category types.u64 (term s) = refl
by-category types.bytes (num z) = refl
by-category types.bytes (addr n) = refl
by-category types.bytes (term s) = refl
by-category types.str (num z) = refl
by-category types.str (addr n) = refl
by-category types.str (term s) = refl
by-category types.bool (num z) = refl
by-category types.bool (addr n) = refl
by-category types.bool (term s) = refl
by-category types.ip (num z) = refl
by-category types.ip (addr n) = refl
by-category types.ip (term s) = refl
by-category types.datetime (num z) = refl
by-category types.datetime (addr n) = refl
by-category types.datetime (term s) = refl

-- types of one category have ends of one kind
pub kind-same : (s t : ColumnType) → category_of s ≡ category_of t → (e : End) → is_kind s e ≡ is_kind t e
kind-same s t same e = by-category s e ∙ ap (λ c. kind_in c e) same ∙ sym (by-category t e)
