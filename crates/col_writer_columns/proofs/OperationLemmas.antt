-- The steps of a column, one after another.
use Rattle.std.proofs.Common.{◌≡◌, ◌≤◌, ℕ, zero, suc, ◌+◌, ◌*◌, List, [], ◌∷◌, length, drop, get_or, Bool, true, false, cond, Option, Some, None, refl, sym, ◌∙◌, ap, arith, eq-eqb}
use Rattle.std.specs.Prelude.{◌==◌, slice_get}
use Rattle.std.specs.List.{zip}
use Rattle.col_writer_columns.specs.Operations.{operations_after, is_told}
use Rattle.col_writer_columns.specs.declared.column_operation.ColumnOperation.{ColumnOperation}
use Rattle.col_writer_columns.specs.declared.column_operation.ColumnOperation.TheVariants.{NewDoc, Value}

-- what stands at a place, and behind it
front-of : {X : Type 0} (docs : List ℕ) (vs : List X) (k d : ℕ) → length docs ≡ length vs
    → slice_get docs k ≡ Some d
    → (x : X) × (drop k (zip docs vs) ≡ (d, x) ∷ drop (k + 1) (zip docs vs)) × ((e : X) → get_or vs k e ≡ x)
front-of [] vs k d same at = absurd (not_some at)
  where
    not_some : None ≡ Some d → ⊥
    not_some e = cc
front-of (l ∷ docs) [] k d same at = absurd (omega arith)
front-of (l ∷ docs) (v ∷ vs) zero d same at = let first : l ≡ d = cc in (v, (λ i. (first i, v) ∷ zip docs vs), λ e. refl)
front-of (l ∷ docs) (v ∷ vs) (suc k) d same at =
    let rest = front-of docs vs k d (omega arith) at in
    let more : suc k + 1 ≡ suc (k + 1) = omega arith in
    (rest.0, rest.1 ∙ ap (λ n. (d, rest.0) ∷ drop n ((l, v) ∷ zip docs vs)) (sym more), rest.2)

-- no step is left at the end
pub none-left :
    {X : Type 0} (docs : List ℕ) (vs : List X) (k : ℕ) (told : Option ℕ) (now : List (ColumnOperation X))
    → operations_after told (drop k (zip docs vs)) ≡ now → length docs ≡ length vs → length vs ≤ k → now ≡ []
unfolding operations_after
none-left docs vs k told now is same h = sym is ∙ ap (operations_after told) (ended docs vs k same h)
  where
    ended : {X : Type 0} (docs : List ℕ) (vs : List X) (k : ℕ) → length docs ≡ length vs → length vs ≤ k → drop k (zip docs vs) ≡ []
    ended [] vs zero same h = refl
    ended [] vs (suc k) same h = refl
    ended (l ∷ docs) [] k same h = absurd (omega arith)
    ended (l ∷ docs) (v ∷ vs) zero same h = absurd (omega arith)
    ended (l ∷ docs) (v ∷ vs) (suc k) same h = ended docs vs k (omega arith) (omega arith)

doc-step : {X : Type 0} (told : Option ℕ) (d : ℕ) (x : X) (ps : List (ℕ × X)) → is_told told d ≡ false
    → operations_after told ((d, x) ∷ ps) ≡ NewDoc d ∷ operations_after (Some d) ((d, x) ∷ ps)
unfolding operations_after
doc-step told d x ps e =
    let same : (d == d) ≡ true = eq-eqb d d refl in
    ap (λ b. cond b (Value x ∷ operations_after (Some d) ps) (NewDoc d ∷ (Value x ∷ operations_after (Some d) ps))) e
    ∙ ap (λ b. NewDoc d ∷ cond b (Value x ∷ operations_after (Some d) ps) (NewDoc d ∷ (Value x ∷ operations_after (Some d) ps))) (sym same)

value-step : {X : Type 0} (told : Option ℕ) (d : ℕ) (x : X) (ps : List (ℕ × X)) → is_told told d ≡ true
    → operations_after told ((d, x) ∷ ps) ≡ Value x ∷ operations_after told ps
unfolding operations_after
value-step None d x ps e = cc
value-step (Some last) d x ps e =
    let same : last ≡ d = grind arith in
    ap (λ b. cond b (Value x ∷ operations_after (Some d) ps) (NewDoc d ∷ (Value x ∷ operations_after (Some d) ps))) e
    ∙ ap (λ l. Value x ∷ operations_after (Some l) ps) (sym same)

-- a document that isn't told is the next step
pub next-doc :
    {X : Type 0} (docs : List ℕ) (vs : List X) (k d : ℕ) (told : Option ℕ) (now : List (ColumnOperation X))
    → operations_after told (drop k (zip docs vs)) ≡ now → length docs ≡ length vs → slice_get docs k ≡ Some d
    → is_told told d ≡ false → now ≡ NewDoc d ∷ operations_after (Some d) (drop k (zip docs vs))
next-doc docs vs k d told now is same at e =
    let f = front-of docs vs k d same at in
    sym is ∙ ap (operations_after told) f.1 ∙ doc-step told d f.0 (drop (k + 1) (zip docs vs)) e
    ∙ ap (λ r. NewDoc d ∷ operations_after (Some d) r) (sym f.1)

-- else the value is
pub next-value :
    {X : Type 0} (docs : List ℕ) (vs : List X) (k d : ℕ) (e : X) (told : Option ℕ) (now : List (ColumnOperation X))
    → operations_after told (drop k (zip docs vs)) ≡ now → length docs ≡ length vs → slice_get docs k ≡ Some d
    → is_told told d ≡ true → now ≡ Value (get_or vs k e) ∷ operations_after told (drop (k + 1) (zip docs vs))
next-value docs vs k d e told now is same at b =
    let f = front-of docs vs k d same at in
    sym is ∙ ap (operations_after told) f.1 ∙ value-step told d f.0 (drop (k + 1) (zip docs vs)) b
    ∙ ap (λ x. Value x ∷ operations_after told (drop (k + 1) (zip docs vs))) (sym (f.2 e))

-- each value has at most two steps
pub steps-few : {X : Type 0} (told : Option ℕ) (ps : List (ℕ × X)) → length (operations_after told ps) ≤ 2 * length ps
unfolding operations_after
steps-few told [] = omega arith
steps-few {X} told (p ∷ ps) = by (is_told told p.0) (steps-few (Some p.0) ps)
  where
    by : (b : Bool) → length (operations_after (Some p.0) ps) ≤ 2 * length ps
        → length (cond b (Value p.1 ∷ operations_after (Some p.0) ps)
        (NewDoc p.0 ∷ (Value p.1 ∷ operations_after (Some p.0) ps))) ≤ 2 * length (p ∷ ps)
    by true h = omega (arith, h)
    by false h = omega (arith, h)
