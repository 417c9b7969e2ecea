-- The bytes of a dictionary that is written.
use Rattle.std.proofs.Common.{◌≡◌, ℕ, ◌<◌, ◌^◌, false, List, [], length, unwrap_or, Some, sym, ap, ◌∙◌}
use Rattle.col_model.specs.Dictionary.{terms}
use Rattle.col_model.specs.Limits.{dictionary_length}
use Rattle.col_terms.specs.Building.{ordered, is_too_long}
use Rattle.col_terms.specs.Laws.{TermsAreThoseGiven, DictionariesAreReadBack}
use Rattle.col_terms.specs.TermTable.{dictionary_bytes, terms_of, IsTable}
use Rattle.col_terms.proofs.TableLemmas.{table_length}
use Rattle.std.proofs.lemmas.Bool.{leb-false}

-- the bytes of terms stand for them, and 32 bits count them
pub record AreWritten (ts : List (List ℕ)) : Type 0 where
  pub read : terms (dictionary_bytes (ordered ts)) ≡ Some (ordered ts)
  pub long : length (dictionary_bytes (ordered ts)) ≡ dictionary_length (ordered ts)
  pub short : dictionary_length (ordered ts) < 2 ^ 32

-- the bytes of terms that aren't too long stand for them, and 32 bits count these
pub written : (ts : List (List ℕ)) → TermsAreThoseGiven → DictionariesAreReadBack → is_too_long ts ≡ false → AreWritten ts
unfolding terms_of
written ts given back fits =
    let short : dictionary_length (ordered ts) < 2 ^ 32 = leb-false (2 ^ 32) (dictionary_length (ordered ts)) fits in
    let read = back (ordered ts) (given.ascend ts) short in
    let own : terms_of (dictionary_bytes (ordered ts)) ≡ ordered ts = ap (λ o. unwrap_or o []) read in
    let table : IsTable (dictionary_bytes (ordered ts)) (length (ordered ts)) =
    record { whole = read ∙ ap Some (sym own); count = ap length (sym own) } in
    record {
      read = read;
      long = table_length (dictionary_bytes (ordered ts)) (length (ordered ts)) table ∙ ap dictionary_length own;
      short = short;
    }
