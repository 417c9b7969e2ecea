-- What the lines of a set's script say so far, and what those to come make of it.
use Rattle.std.specs.Prelude.{◌≡◌, ℕ, ◌==◌, nat_lt, Bool, true, false, List, [], ◌∷◌, ◌++◌, map, filter, length, Option, Some, None, Ok, option_map}
use Rattle.col_common.specs.Reading.{◌>>=◌, only_if}
use Rattle.col_model.specs.File.{for_each}
use Rattle.col_script.specs.Segments.{Filled, segment_of, after_call}
use Rattle.col_script.specs.declared.segment.Segment.{Segment}
use Rattle.col_set_script.specs.SetScripts.{SetLine, start, call, drop, compact, look, set_line_spelled}
use Rattle.col_set_script.specs.Steps.{FilledStep, add_filled, drop_filled, merge_filled, find_filled, step_of}
use Rattle.col_set_script.specs.declared.draft.Draft.{Draft}
use Rattle.col_set_script.specs.declared.step.Step.{Step}
use Rattle.col_set_script.specs.declared.step.Step.TheVariants as declared_steps

-- what lines say: the steps, and the segment that is current
pub record DraftParts : Type 0 where
  pub steps : List FilledStep
  pub current : Option Filled

-- before any line
abbrev pub no_parts : DraftParts
no_parts = record { steps = []; current = None }

-- the parts that a draft holds
abbrev pub draft_parts : Draft → DraftParts
draft_parts d = record {
  steps = map step_of d.steps.items;
  current = option_map segment_of d.current;
}

-- the step that adds a segment, if there is one
abbrev pub added : Option Filled → List FilledStep
added None = []
added (Some f) = add_filled f ∷ []

-- the step that adds a segment, if one was read
abbrev pub added_of : Option Segment → List Step
added_of None = []
added_of (Some s) = declared_steps.Add s ∷ []

-- the steps when the segment ends
abbrev pub ended : DraftParts → List FilledStep
ended p = p.steps ++ added p.current

-- with one step more, for which the segment ends
abbrev pub with_step : FilledStep → DraftParts → DraftParts
with_step s p = record { steps = ended p ++ s ∷ []; current = None }

-- the parts after one more line, where a script has it there
abbrev pub after_line : DraftParts → SetLine → Option DraftParts
after_line p (start n) =
    Some (record { steps = ended p; current = Some (record { count = n; content = Ok [] }) })
after_line p (call c) =
    p.current >>= λ f. Some (record { steps = p.steps; current = Some (after_call f c) })
after_line p (drop ids) = Some (with_step (drop_filled ids) p)
after_line p compact = Some (with_step merge_filled p)
after_line p (look l) = Some (with_step (find_filled l) p)

-- the steps of some parts and the lines behind them
unfoldable pub steps_with : DraftParts → List SetLine → Option (List FilledStep)
steps_with p [] = Some (ended p)
steps_with p (l ∷ ls) = after_line p l >>= λ q. steps_with q ls

-- the steps of some parts and the pieces behind them, among which empty ones count for nothing
abbrev pub steps_behind : DraftParts → List (List ℕ) → Option (List FilledStep)
steps_behind p pieces =
    for_each set_line_spelled (filter (λ piece. nat_lt 0 (length piece)) pieces) >>= steps_with p

-- the line is in the new draft; where it isn't taken, no script goes on with it
abbrev pub TakesLine : SetLine → Draft → Draft → Bool → Type 0
TakesLine line old new taken =
    after_line (draft_parts old) line ≡ only_if taken (draft_parts new)

-- the step is in the new draft
abbrev pub TakesStep : FilledStep → Draft → Draft → Bool → Type 0
TakesStep step old new taken =
    Some (with_step step (draft_parts old)) ≡ only_if taken (draft_parts new)

-- what comes of it, where a piece was taken
abbrev pub if_taken : Bool → Option (List FilledStep) → Option (List FilledStep)
if_taken true steps = steps
if_taken false steps = None

-- the draft comes to the same with one piece less behind it;
-- where it isn't taken, that is no script
abbrev pub TakesPiece : List ℕ → Draft → Draft → Bool → Type 0
TakesPiece piece old new taken = (pieces : List (List ℕ))
    → steps_behind (draft_parts old) (piece ∷ pieces)
    ≡ if_taken taken (steps_behind (draft_parts new) pieces)
