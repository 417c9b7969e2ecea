use Rattle.std.proofs.Common.{◌≡◌, ℕ, ◌+◌, ◌-◌, ◌^◌, ◌<◌, ◌≤◌, Bool, List, length}
use Rattle.col_query.specs.Sets.{docs_where}
use Rattle.col_query.specs.declared.lists.Kept.{Kept}
use Rattle.col_query.proofs.MergeLemmas.{IsMerging}
use Rattle.col_query.proofs.lists.merge_docs.Given as goal

-- The places are within the lists, and those before them are merged.
pub record IsAt (kept : Kept) (left right made : List ℕ) (i j : ℕ) : Type 0 where
  pub on_left : i ≤ length left
  pub on_right : j ≤ length right
  pub merged : (n : ℕ) (p q : ℕ → Bool) → n < 2 ^ 32 → left ≡ docs_where p n → right ≡ docs_where q n
      → IsMerging kept p q n left right made i j

abbrev pub invariant-docs : goal.invariant-docs
invariant-docs l = IsAt l.kept l.left l.right l.docs.items l.i l.j

abbrev pub decreases-docs : goal.decreases-docs
decreases-docs l = length l.left + length l.right - (l.i + l.j)
