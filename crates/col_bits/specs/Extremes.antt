-- The least and the greatest of items, by an order.
use Rattle.std.specs.Prelude.{◌≡◌, true, List, [], Contains, Option, MatchOption}
use Rattle.std.specs.List.{All}
use Rattle.std.specs.Ordering.{is_le}
use Rattle.std.specs.declared.cmp.Ordering.{Ordering}

-- the first is at most the second
abbrev pub IsAtMost : {T : Type 0} → (T → T → Ordering) → T → T → Type 0
IsAtMost cmp a b = is_le (cmp a b) ≡ true

-- both are items, and each item lies between them
pub record AreExtremes {T : Type 0} (cmp : T → T → Ordering) (items : List T)
    (least greatest : T) : Type 0 where
  pub least_in : Contains items least
  pub greatest_in : Contains items greatest
  pub above : All (IsAtMost cmp least) items
  pub below : All (λ item. IsAtMost cmp item greatest) items

-- the least and the greatest item, and none of nothing
abbrev pub IsMinMax : {T : Type 0} → (T → T → Ordering) → List T → Option (T × T) → Type 0
IsMinMax cmp items result =
    MatchOption result (items ≡ []) (λ found. AreExtremes cmp items found.0 found.1)
