-- The terms in order are those that were given, and ordinals are their places.
use Rattle.std.proofs.Common.{◌≡◌, ℕ, ◌<◌, true, List, [], length, get_or, slice_get, slice_index, Some, sym, ap, ◌∙◌}
use Rattle.std.specs.Ordering.{nat_cmp}
use Rattle.std.specs.Cmp.Lexicographic.{slice_cmp}
use Rattle.std.proofs.lemmas.Cmp.{nat_list_cmp_total}
use Rattle.std.proofs.lemmas.List.{length-map, get_or-map}
use Rattle.std.proofs.lemmas.Option.{slice_get-get_or}
use Rattle.col_model.proofs.DistinctLaws.{has-distinct}
use Rattle.col_model.proofs.SoundTables.{among-has}
use Rattle.col_terms.specs.Building.{is_known, id_of, ordered, ordinals}
use Rattle.col_terms.specs.Laws.{TermsAreThoseGiven}
use Rattle.col_terms.proofs.OrderedLemmas.{in_order-ordered, is_ascending-in_order}
use Rattle.col_terms.proofs.PlaceLemmas.{known_at, place_below, term_at_place}

-- a term is one of the terms in order where it is one of those given, and there alone
pub known-ordered : (ts : List (List ℕ)) (t : List ℕ) → is_known (ordered ts) t ≡ is_known ts t
known-ordered ts t = among-has t (ordered ts) ∙ has-distinct (slice_cmp nat_cmp) nat_list_cmp_total t ts ∙ sym (among-has t ts)

term-at-ordinal : (ts : List (List ℕ)) (id : ℕ) → id < length ts → slice_get (ordered ts) (slice_index (ordinals ts) id) ≡ slice_get ts id
term-at-ordinal ts id h =
    let t = get_or ts id [] in
    let there : is_known (ordered ts) t ≡ true = known-ordered ts t ∙ known_at ts id h in
    let ordinal : slice_index (ordinals ts) id ≡ id_of (ordered ts) t = get_or-map (id_of (ordered ts)) ts id [] 0 h in
    ap (slice_get (ordered ts)) ordinal
    ∙ slice_get-get_or (ordered ts) (id_of (ordered ts) t) [] (place_below (ordered ts) t there)
    ∙ ap Some (term_at_place (ordered ts) t there)
    ∙ sym (slice_get-get_or ts id [] h)

-- the terms in order are those that were given, and their ordinals are their places
pub terms-are-those-given : TermsAreThoseGiven
terms-are-those-given = record {
  ascend = λ ts. is_ascending-in_order (ordered ts) (in_order-ordered ts);
  given = known-ordered;
  count = λ ts. length-map ts (id_of (ordered ts));
  places = term-at-ordinal;
}
