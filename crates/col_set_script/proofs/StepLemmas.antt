-- What lines come to, by the parts of a draft and by the definition.
use Rattle.std.proofs.Common.{◌≡◌, ℕ, List, [], ◌∷◌, ◌++◌, map, Option, Some, None, option_map, refl, ◌∙◌, ap, append_assoc}
use Rattle.std.specs.Prelude.{◌==◌}
use Rattle.std.specs.List.{slice_split}
use Rattle.std.proofs.lemmas.List.{append-nil}
use Rattle.col_common.specs.Reading.{◌>>=◌}
use Rattle.col_model.specs.File.{for_each}
use Rattle.col_program.specs.Script.{Segment, pieces_of}
use Rattle.col_script.specs.Segments.{Filled, filled}
use Rattle.col_set_script.specs.SetScripts.{SetLine, start, call, drop, compact, look, SetStep, drop_rows, merge_all, find_rows, closed, with_call, steps_from, set_line_spelled, set_script_of}
use Rattle.col_set_script.specs.Steps.{FilledStep, filled_step}
use Rattle.col_set_script.specs.Drafts.{no_parts, added, steps_with, steps_behind}
use Rattle.col_set_script.proofs.CallLemmas.{filled-call}

-- ---- the steps of lines

module _ (done : List FilledStep) (o : Option Segment) where
  -- the steps so far, with the segment that ended
  abbrev behind_segment : List FilledStep
  behind_segment = done ++ added (option_map filled o)

  -- steps behind the segment that ended
  with-closed : (steps : List SetStep) → behind_segment ++ map filled_step steps ≡ done ++ map filled_step (closed o steps)
  with-closed steps = go o
    where
      go : (o : Option Segment) → (done ++ added (option_map filled o)) ++ map filled_step steps
          ≡ done ++ map filled_step (closed o steps)
      go None = ap (λ ss. ss ++ map filled_step steps) (append-nil done)
      go (Some s) = append_assoc done (filled_step (SetStep.add s) ∷ []) (map filled_step steps)

  -- the same of steps that may not be there
  with-rest : (r : Option (List SetStep)) → option_map (λ more. behind_segment ++ map filled_step more) r
      ≡ option_map (λ more. done ++ map filled_step more) (r >>= λ steps. Some (closed o steps))
  with-rest None = refl
  with-rest (Some steps) = ap Some (with-closed steps)

  -- one step in front of them
  with-step : (x : SetStep) (r : Option (List SetStep))
      → option_map (λ more. (behind_segment ++ filled_step x ∷ []) ++ map filled_step more) r
      ≡ option_map (λ more. done ++ map filled_step more) (r >>= λ steps. Some (closed o (x ∷ steps)))
  with-step x None = refl
  with-step x (Some steps) =
      ap Some (append_assoc behind_segment (filled_step x ∷ []) (map filled_step steps) ∙ with-closed (x ∷ steps))

-- the steps so far and those of the lines
all-steps : (o : Option Segment) (done : List FilledStep) (ls : List SetLine)
    → steps_with (record { steps = done; current = option_map filled o }) ls
    ≡ option_map (λ more. done ++ map filled_step more) (steps_from o ls)
unfolding steps_with
all-steps o done [] = ends o
  where
    ends : (o : Option Segment) → Some (done ++ added (option_map filled o)) ≡ Some (done ++ map filled_step (closed o []))
    ends None = refl
    ends (Some s) = refl
all-steps o done (start n ∷ ls) =
    all-steps (Some (record { count = n; calls = [] })) (behind_segment done o) ls
    ∙ with-rest done o (steps_from (Some (record { count = n; calls = [] })) ls)
all-steps None done (call c ∷ ls) = refl
all-steps (Some s) done (call c ∷ ls) =
    ap (λ f. steps_with (record { steps = done; current = Some f }) ls) (filled-call c s)
    ∙ all-steps (Some (with_call c s)) done ls
all-steps o done (drop ids ∷ ls) =
    all-steps None (behind_segment done o ++ filled_step (drop_rows ids) ∷ []) ls
    ∙ with-step done o (drop_rows ids) (steps_from None ls)
all-steps o done (compact ∷ ls) =
    all-steps None (behind_segment done o ++ filled_step merge_all ∷ []) ls ∙ with-step done o merge_all (steps_from None ls)
all-steps o done (look l ∷ ls) =
    all-steps None (behind_segment done o ++ filled_step (find_rows l) ∷ []) ls
    ∙ with-step done o (find_rows l) (steps_from None ls)

-- ---- the whole script

-- before any line
pub begins : (bytes : List ℕ)
    → steps_behind no_parts (slice_split (λ b. b == 10) bytes) ≡ option_map (map filled_step) (set_script_of bytes)
unfolding set_script_of
begins bytes = go (for_each set_line_spelled (pieces_of bytes))
  where
    go : (o : Option (List SetLine)) → (o >>= steps_with no_parts) ≡ option_map (map filled_step) (o >>= steps_from None)
    go None = refl
    go (Some ls) = all-steps None [] ls
