-- Numbers of values stand as far from one another as their codes.
use Rattle.std.specs.Prelude.{pos, ◌+ℤ◌, ◌^◌, true, Some}
use Rattle.std.specs.Ordering.{int_cmp, bool_cmp}
use Rattle.col_model.specs.Codes.{number_cmp, is_below, bool_code, i64_code, is_i64}
use Rattle.col_facet.specs.Tables.{HasPlaces}
use Rattle.col_facet.specs.declared.facet_cell.FacetCell.TheVariants.{Num}
use Rattle.col_facet.proofs.NumberLemmas.{bool_places, i64_places, u64_places}

-- flags
pub flags : HasPlaces (λ x y. Some (bool_cmp x y)) (λ _. true) bool_code (λ b. Num (pos (bool_code b)))
    (λ least n. Num (pos (bool_code least) +ℤ pos n))
flags = bool_places

-- numbers without a sign
pub unsigned : HasPlaces number_cmp (is_below (2 ^ 64)) (λ n. n) (λ n. Num (pos n)) (λ least n. Num (pos least +ℤ pos n))
unsigned = u64_places

-- signed numbers
pub signed : HasPlaces (λ x y. Some (int_cmp x y)) is_i64 i64_code (λ z. Num z) (λ least n. Num (least +ℤ pos n))
signed = i64_places
