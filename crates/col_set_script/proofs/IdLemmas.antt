-- Ids of rows, one by one.
use Rattle.std.proofs.Common.{◌≡◌, ℕ, ◌+◌, List, [], ◌∷◌, ◌++◌, map, drop, Option, Some, sym, ◌∙◌, ap}
use Rattle.serde_json.specs.Data.{Data}
use Rattle.serde_json.specs.View.{view}
use Rattle.serde_json.specs.declared.value.Value.{Value}
use Rattle.col_model.specs.File.{for_each}
use Rattle.col_program.specs.Values.{as_u32}
use Rattle.col_lines.proofs.PartLemmas.{behind, behind-one}

-- one more id
pub more_ids : (vs : List Value) (i : ℕ) (v : Value) (done more : List ℕ) (id : ℕ) (whole : Option (List ℕ))
    → drop i vs ≡ v ∷ drop (i + 1) vs → Some id ≡ as_u32 (view v) → more ≡ done ++ id ∷ []
    → behind done (for_each as_u32 (map view (drop i vs))) ≡ whole
    → behind more (for_each as_u32 (map view (drop (i + 1) vs))) ≡ whole
more_ids vs i v done more id whole split read grown inv =
    let rest : List Data = map view (drop (i + 1) vs) in
    ap (λ ds. behind ds (for_each as_u32 rest)) grown
    ∙ sym (behind-one as_u32 done (view v) rest id read)
    ∙ sym (ap (λ xs. behind done (for_each as_u32 (map view xs))) split)
    ∙ inv
