-- Entries that are listed in some order.
use Rattle.std.specs.Prelude.{◌≡◌, IsTrue, map}
use Rattle.std.specs.FinMap.{find}
use Rattle.std.specs.FinMap.Entries.{is_sorted}
use Rattle.std.specs.List.{IsDistinct}
use Rattle.std.specs.List.Sorted.{IsPermutation, IsSorted}
use Rattle.col_model.specs.Category.{Slot, slot_cmp, same_slot}
use Rattle.col_model.specs.Written.{Recorded}

-- the entries of a content, in some order: each slot once
pub record IsListed (es w : Recorded) : Type 0 where
  pub once : IsDistinct same_slot (map (λ p. p.0) es)
  pub found : (q : Slot) → find slot_cmp q es ≡ find slot_cmp q w
  pub sorted : IsTrue (is_sorted slot_cmp w)

-- the second list is the first in the order of the slots
pub record AreSorted (old new : Recorded) : Type 0 where
  pub permuted : IsPermutation old new
  pub sorted : IsSorted (λ p q. slot_cmp p.0 q.0) new
