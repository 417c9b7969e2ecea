use Rattle.std.proofs.Common.{◌≡◌, ℕ, ◌≤◌, Bool, List}
use Rattle.col_query.specs.Sets.{docs_where}
use Rattle.col_query.proofs.MergeLemmas.{IsLeaving}
use Rattle.col_query.proofs.lists.other_docs.Given as goal

-- The place in the list isn't past the documents, and those before it that the list leaves out are made.
pub record IsAt (n doc place : ℕ) (docs made : List ℕ) : Type 0 where
  pub within : place ≤ doc
  pub leaves : (p : ℕ → Bool) → docs ≡ docs_where p n → IsLeaving p n doc place docs made

abbrev pub invariant-loop-doc : goal.invariant-loop-doc
invariant-loop-doc l = IsAt l.num_docs l.doc l.place l.docs l.others.items
