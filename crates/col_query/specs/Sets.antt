-- Sets of documents: rising lists, or bits.
use Rattle.std.specs.Prelude.{◌≡◌, ℕ, ◌<◌, Bool, true, false, not, List, filter, length}
use Rattle.std.specs.List.{range_with_len}
use Rattle.std.specs.Int.{div_ceil}
use Rattle.col_common.specs.Flags.{flag_at}
use Rattle.col_query.specs.declared.doc_set.Docs.{Docs}
use Rattle.col_query.specs.declared.doc_set.Docs.TheVariants as docs
use Rattle.col_query.specs.declared.doc_set.DocSet.{DocSet}
use Rattle.col_query.specs.declared.lists.Kept.{Kept}

-- the documents below n that pass a test, ascending
abbrev pub docs_where : (ℕ → Bool) → ℕ → List ℕ
docs_where test n = filter test (range_with_len 0 n)

-- whether a merge keeps a document, by whether the left and the right list have it
abbrev pub is_kept : Kept → Bool → Bool → Bool
is_kept k true true = k.both
is_kept k true false = k.left
is_kept k false true = k.right
is_kept k false false = false

-- which documents of two lists, each turned over or not, stand for the set of both, or for what it
-- leaves out where both are turned over
abbrev pub kept_of : Bool → Bool → Kept
kept_of false false = record { left = false; both = true; right = false }
kept_of false true = record { left = true; both = false; right = false }
kept_of true false = record { left = false; both = false; right = true }
kept_of true true = record { left = true; both = true; right = true }

-- a bit, turned over where it is to be
abbrev pub turn_over : Bool → Bool → Bool
turn_over true bit = not bit
turn_over false bit = bit

-- words with a bit for each of n documents, set where the test passes
pub record AreBits (n : ℕ) (test : ℕ → Bool) (words : List ℕ) : Type 0 where
  pub room : length words ≡ div_ceil n 64
  pub bits : (d : ℕ) → d < n → flag_at words d ≡ test d

-- the documents below n that pass the test, in either form
abbrev pub AreDocs : ℕ → (ℕ → Bool) → Docs → Type 0
AreDocs n test (docs.List found) = found.items ≡ docs_where test n
AreDocs n test (docs.Bits words) = AreBits n test words.items

-- the set of the documents below n that pass the test
abbrev pub IsSetOf : ℕ → (ℕ → Bool) → DocSet → Type 0
IsSetOf n test s = AreDocs n (λ d. turn_over s.turned (test d)) s.docs
