-- The least and the greatest, one item after another.
use Rattle.std.proofs.Common.{Bool, true, false, cond, List, [], ◌∷◌, ◌++◌, Contains, refl}
use Rattle.std.specs.Cmp.{IsTotalOrder}
use Rattle.std.specs.Ordering.{is_lt, ord_min, ord_max}
use Rattle.std.specs.declared.cmp.Ordering.{Ordering}
use Rattle.std.proofs.lemmas.List.Elements.{All-push, All-weaker, All-nil, Contains-append_left, Contains-push}
use Rattle.col_common.proofs.OrderingLemmas.{le_itself, le_chain, min_cases, max_cases}
use Rattle.col_bits.specs.Extremes.{IsAtMost, AreExtremes}

module _ {T : Type 0} {R : T → T → Ordering} (o : IsTotalOrder R) where
  -- one of two is among more items
  either_in : (items : List T) (x y : T) (b : Bool) → Contains items x
      → Contains (items ++ y ∷ []) (cond b x y) × Contains (items ++ y ∷ []) (cond b y x)
  either_in items x y true h = (Contains-append_left items (y ∷ []) x h, Contains-push items y)
  either_in items x y false h = (Contains-push items y, Contains-append_left items (y ∷ []) x h)

  -- one item is both
  pub extremes_one : (x : T) → AreExtremes R (x ∷ []) x x
  extremes_one x = record {
    least_in = Contains-push [] x;
    greatest_in = Contains-push [] x;
    above = All-push (IsAtMost R x) [] x (All-nil (IsAtMost R x)) (le_itself o x);
    below = All-push (λ item. IsAtMost R item x) [] x (All-nil (λ item. IsAtMost R item x)) (le_itself o x);
  }

  -- one item more
  pub extremes_more : (items : List T) (x least greatest : T) → AreExtremes R items least greatest
      → AreExtremes R (items ++ x ∷ []) (ord_min R least x) (ord_max R greatest x)
  extremes_more items x least greatest e =
      let low = min_cases o least x (is_lt (R x least)) refl in
      let high = max_cases o greatest x (is_lt (R x greatest)) refl in
      record {
        least_in = (either_in items least x (is_lt (R x least)) e.least_in).1;
        greatest_in = (either_in items greatest x (is_lt (R x greatest)) e.greatest_in).0;
        above = All-push (IsAtMost R (ord_min R least x)) items x
            (All-weaker (IsAtMost R least) (IsAtMost R (ord_min R least x)) (λ v h. le_chain o _ least v low.0 h) items e.above) low.1;
        below = All-push (λ v. IsAtMost R v (ord_max R greatest x)) items x
            (All-weaker (λ v. IsAtMost R v greatest) (λ v. IsAtMost R v (ord_max R greatest x))
            (λ v h. le_chain o v greatest _ h high.0) items e.below) high.1;
      }
