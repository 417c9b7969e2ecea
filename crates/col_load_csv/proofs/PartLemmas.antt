-- Documents of one record and of those behind it.
use Rattle.std.proofs.Common.{◌≡◌, ◌∙◌, ◌+◌, ℕ, List, [], ◌++◌, Result, Ok, Err, refl, sym, ap, append_assoc, arith}
use Rattle.col_documents.specs.Documents.{Fields, Refusal}
use Rattle.col_load.specs.Loads.{Document, Stop, both}
use Rattle.col_load.specs.Loading.{IsStop}
use Rattle.col_load.specs.declared.load_error.LoadError.{LoadError}
use Rattle.col_load.specs.declared.load_error.LoadError.TheVariants.{OutOfMemory, BadLine, TooMany, Columnar}
use Rattle.col_load_csv.specs.Taking.{bad_count}

-- none before others
pub both_none : (r : Result (List Document) Stop) → r ≡ both (Ok []) r
both_none (Ok docs) = refl
both_none (Err stop) = refl

-- some and more before others
pub both_both : (docs more : List Document) (r : Result (List Document) Stop)
    → both (Ok docs) (both (Ok more) r) ≡ both (Ok (docs ++ more)) r
both_both docs more (Ok rest) = ap Ok (sym (append_assoc docs more rest))
both_both docs more (Err stop) = refl

-- an error that is a stop of the first part
pub stopped_both : (e : LoadError) (docs : List Document) (part rest : Result (List Document) Stop) → IsStop e part
    → IsStop e (both (Ok docs) (both part rest))
stopped_both OutOfMemory docs part rest is = tt
stopped_both (BadLine n r) docs part rest is = ap (λ p. both (Ok docs) (both p rest)) is
stopped_both TooMany docs part rest is = ap (λ p. both (Ok docs) (both p rest)) is
stopped_both (Columnar e) docs part rest is = absurd is

-- the same stop of what is equal
pub stop_same : (e : LoadError) (a b : Result (List Document) Stop) → a ≡ b → IsStop e b → IsStop e a
stop_same OutOfMemory a b same is = tt
stop_same (BadLine n r) a b same is = same ∙ is
stop_same TooMany a b same is = same ∙ is
stop_same (Columnar e) a b same is = absurd is

-- a record that is a document doesn't count as a bad one
pub good_counted : (n : ℕ) (document : Fields) (fields : Document) → document ≡ Ok fields → n ≡ n + bad_count document
good_counted n document fields is = let none : bad_count document ≡ 0 = ap bad_count is in omega (arith, none)

-- one that isn't does
pub bad_counted : (n : ℕ) (document : Fields) (refusal : Refusal) → document ≡ Err refusal → n + 1 ≡ n + bad_count document
bad_counted n document refusal is = let one : bad_count document ≡ 1 = ap bad_count is in omega (arith, one)

-- what is counted of a record and of those behind it
pub counted_more : (a b more left behind all : ℕ) → a + left ≡ all → left ≡ more + behind → b ≡ a + more → b + behind ≡ all
counted_more a b more left behind all has cut new = omega (arith, has, cut, new)
