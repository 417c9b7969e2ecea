-- What steps come to, in two parts.
use Rattle.std.proofs.Common.{◌≡◌, ◌∙◌, List, [], ◌∷◌, ◌++◌, Result, Ok, Err, refl, sym, ap, append_assoc}
use Rattle.col_model.specs.Refusal.{Refusal, ◌>>=◌}
use Rattle.col_model.proofs.RefusalLaws.{same_Ok, err_not_ok}
use Rattle.col_set.specs.Segments.{HeldTable}
use Rattle.col_set_run.specs.Outcome.{after_step, found_lines, held_before, of_tables, reached, step_lines}
use Rattle.col_set_script.specs.SetScripts.{SetStep}

reached-append : (hs : List HeldTable) (xs ys : List SetStep) → reached hs (xs ++ ys) ≡ (reached hs xs >>= λ next. reached next ys)
reached-append hs [] ys = refl
reached-append hs (x ∷ xs) ys = go (after_step x hs) (λ next. reached-append next xs ys)
  where
    go : (r : Result (List HeldTable) Refusal)
        → ((next : List HeldTable) → reached next (xs ++ ys) ≡ (reached next xs >>= λ last. reached last ys))
        → (r >>= λ next. reached next (xs ++ ys)) ≡ ((r >>= λ next. reached next xs) >>= λ last. reached last ys)
    go (Ok next) same = same next
    go (Err e) same = refl

same-result : (r : Result (List HeldTable) Refusal) → (r >>= λ next. Ok next) ≡ r
same-result (Ok next) = refl
same-result (Err e) = refl

module _ (hs now : List HeldTable) (xs : List SetStep) (is : reached hs xs ≡ Ok now) where
  -- more steps go on from the tables that were reached
  pub reached-more : (x : SetStep) (ys : List SetStep) → reached hs (xs ++ x ∷ ys) ≡ (after_step x now >>= λ next. reached next ys)
  reached-more x ys = reached-append hs xs (x ∷ ys) ∙ ap (λ r. r >>= λ next. reached next (x ∷ ys)) is

  pub reached-one : (x : SetStep) → reached hs (xs ++ x ∷ []) ≡ after_step x now
  reached-one x = reached-more x [] ∙ same-result (after_step x now)

-- the tables before a refusal behind steps are those before it from where these lead
pub before-more : (hs now : List HeldTable) (xs ys : List SetStep) → reached hs xs ≡ Ok now → held_before hs (xs ++ ys) ≡ held_before now ys
before-more hs now [] ys is = ap (λ t. held_before t ys) (same_Ok hs now is)
before-more hs now (x ∷ xs) ys is = go (after_step x hs) (λ next same. before-more next now xs ys same) is
  where
    go : (r : Result (List HeldTable) Refusal)
        → ((next : List HeldTable) → reached next xs ≡ Ok now → held_before next (xs ++ ys) ≡ held_before now ys)
        → (r >>= λ next. reached next xs) ≡ Ok now → of_tables hs r (λ next. held_before next (xs ++ ys)) ≡ held_before now ys
    go (Ok next) rest same = rest next same
    go (Err e) rest same = absurd (err_not_ok e now same)

-- so are the lines
pub found-more : (hs now : List HeldTable) (xs ys : List SetStep) → reached hs xs ≡ Ok now
    → found_lines hs (xs ++ ys) ≡ found_lines hs xs ++ found_lines now ys
found-more hs now [] ys is = ap (λ t. found_lines t ys) (same_Ok hs now is)
found-more hs now (x ∷ xs) ys is = go (after_step x hs) (λ next same. found-more next now xs ys same) is
  where
    go : (r : Result (List HeldTable) Refusal)
        → ((next : List HeldTable) → reached next xs ≡ Ok now → found_lines next (xs ++ ys) ≡ found_lines next xs ++ found_lines now ys)
        → (r >>= λ next. reached next xs) ≡ Ok now
        → step_lines x hs ++ of_tables [] r (λ next. found_lines next (xs ++ ys))
        ≡ (step_lines x hs ++ of_tables [] r (λ next. found_lines next xs)) ++ found_lines now ys
    go (Ok next) rest same =
        ap (λ ls. step_lines x hs ++ ls) (rest next same) ∙ sym (append_assoc (step_lines x hs) (found_lines next xs) (found_lines now ys))
    go (Err e) rest same = absurd (err_not_ok e now same)

-- the lines of one step, which isn't refused
pub found-one : (now next : List HeldTable) (x : SetStep) → after_step x now ≡ Ok next → found_lines now (x ∷ []) ≡ step_lines x now ++ []
found-one now next x is = ap (λ r. step_lines x now ++ of_tables [] r (λ t. found_lines t [])) is

-- the tables before a step that is refused
pub before-refused : (now : List HeldTable) (x : SetStep) (ys : List SetStep) (r : Refusal) → after_step x now ≡ Err r
    → held_before now (x ∷ ys) ≡ now
before-refused now x ys r is = ap (λ s. of_tables now s (λ next. held_before next ys)) is
