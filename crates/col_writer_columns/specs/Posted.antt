-- Values beside their documents, in order of recording.
use Rattle.std.specs.Prelude.{◌≡◌, ◌<◌, ℕ, ◌-◌, ◌^◌, nat_le, List, [], ◌∷◌, ◌++◌, length, Result, Ok}
use Rattle.col_model.specs.Refusal.{Refusal, ◌>>=◌, refuse_if, doc_order, too_large}
use Rattle.col_writer_rows.specs.Documents.{is_late_doc, docs_of}

-- the values with one more, or the first refusal
unfoldable pub posted_after : {X : Type 0} → List (ℕ × X) → ℕ → X → Result (List (ℕ × X)) Refusal
posted_after ps d x = do
  _ ← refuse_if (is_late_doc (docs_of ps) d) doc_order
  _ ← refuse_if (nat_le (2 ^ 32 - 1) (length ps)) too_large
  Ok (ps ++ (d, x) ∷ [])

-- the second list is the first with this value in the place of the last one
unfoldable pub IsSet : {X : Type 0} → List (ℕ × X) → X → List (ℕ × X) → Type 0
IsSet {X} old value new = (ps : List (ℕ × X)) (d : ℕ) (x : X) → old ≡ ps ++ (d, x) ∷ []
    → new ≡ ps ++ (d, value) ∷ []

-- as many documents as values, and no more values than a column may have
pub record AreBeside {X : Type 0} (docs : List ℕ) (values : List X) : Type 0 where
  pub many : length docs ≡ length values
  pub few : length values < 2 ^ 32
