use Rattle.std.proofs.Common.{pos, map, sym, ap, ◌∙◌}
use Rattle.std.specs.List.{list_all}
use Rattle.col_numbers.specs.Coercions.{fits_i64}
use Rattle.col_numbers.specs.NumValues.{num_values_of}
use Rattle.col_numbers.specs.Readers.{list_of}
use Rattle.col_numbers.proofs.CoercionLemmas.{whole_list_to_i64, half_list_to_i64}
use Rattle.col_numbers.proofs.num_values.see_as_i64.Goals as goal

pub new-requires : goal.new-requires
new-requires c =
    (whole_list_to_i64 (list_of c.into_parts.result.0) c.in-Read.view c.into_parts.ensures.values
    c.into_parts.ensures.seen (ap (λ v. list_all fits_i64 (num_values_of v)) (sym c.in-Read.is) ∙ c.requires)).0

pub returns-in-Read : goal.returns-in-Read
returns-in-Read c =
    c.new.ensures
    ∙ (whole_list_to_i64 (list_of c.into_parts.result.0) c.in-Read.view c.into_parts.ensures.values
    c.into_parts.ensures.seen (ap (λ v. list_all fits_i64 (num_values_of v)) (sym c.in-Read.is) ∙ c.requires)).1
    ∙ ap (λ v. map pos (num_values_of v)) (sym c.in-Read.is)

pub new-requires-in-Coerced-2 : goal.new-requires-in-Coerced-2
new-requires-in-Coerced-2 c =
    (half_list_to_i64 c.into_parts-in-Coerced.result.1.rises (list_of c.into_parts-in-Coerced.result.0)
    c.in-Coerced.view c.into_parts-in-Coerced.ensures.values c.into_parts-in-Coerced.ensures.seen
    (ap (λ v. list_all fits_i64 (num_values_of v)) (sym c.in-Coerced.is) ∙ c.requires)).0

pub returns-in-Coerced : goal.returns-in-Coerced
returns-in-Coerced c =
    c.new-in-Coerced-2.ensures
    ∙ (half_list_to_i64 c.into_parts-in-Coerced.result.1.rises (list_of c.into_parts-in-Coerced.result.0)
    c.in-Coerced.view c.into_parts-in-Coerced.ensures.values c.into_parts-in-Coerced.ensures.seen
    (ap (λ v. list_all fits_i64 (num_values_of v)) (sym c.in-Coerced.is) ∙ c.requires)).1
    ∙ ap (λ v. map pos (num_values_of v)) (sym c.in-Coerced.is)
