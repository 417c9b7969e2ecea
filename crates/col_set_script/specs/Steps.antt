-- What is read of a set's script: its steps, with segments filled.
use Rattle.std.specs.Prelude.{◌≡◌, ℕ, List, map, Option, Some, None, string_bytes, Vec}
use Rattle.std.specs.declared.alloc.Global.{Global}
use Rattle.col_questions.specs.Finds.{ends_type, low_of, high_of}
use Rattle.col_script.specs.Segments.{Filled, filled, segment_of}
use Rattle.col_set_script.specs.SetScripts.{SetStep, add, drop_rows, merge_all, find_rows}
use Rattle.col_set_script.specs.SetScripts as model
use Rattle.col_set_script.specs.declared.step.Lookup.{Lookup}
use Rattle.col_set_script.specs.declared.step.Step.{Step}
use Rattle.col_set_script.specs.declared.step.Step.TheVariants as steps

-- what is done, with the segments filled
pub data FilledStep : Type 0 where
  add_filled : Filled → FilledStep
  drop_filled : List ℕ → FilledStep
  merge_filled : FilledStep
  find_filled : model.Lookup → FilledStep

-- a step with its segment filled
abbrev pub filled_step : SetStep → FilledStep
filled_step (add s) = add_filled (filled s)
filled_step (drop_rows ids) = drop_filled ids
filled_step merge_all = merge_filled
filled_step (find_rows l) = find_filled l

-- the lookup
abbrev pub lookup_of : Lookup → model.Lookup
lookup_of l = record {
  name = string_bytes l.name;
  column_type = ends_type l.ends;
  lo = low_of l.ends;
  hi = high_of l.ends;
}

-- the step that was read
abbrev pub step_of : Step → FilledStep
step_of (steps.Add s) = add_filled (segment_of s)
step_of (steps.Drop ids) = drop_filled ids.items
step_of steps.Compact = merge_filled
step_of (steps.Find l) = find_filled (lookup_of l)

-- the steps, where there is a script
abbrev pub AreStepsOf : Option (List SetStep) → Option (Vec Step Global) → Type 0
AreStepsOf expected None = expected ≡ None
AreStepsOf None (Some found) = ⊥
AreStepsOf (Some expected) (Some found) = map filled_step expected ≡ map step_of found.items
