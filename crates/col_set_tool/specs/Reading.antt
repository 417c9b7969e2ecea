-- What reading a set's script answers.
use Rattle.std.specs.Prelude.{◌≡◌, ◌⊎◌, ℕ, List, [], ◌∷◌, map, Vec, Contains, Result, Ok, Err, IfSome}
use Rattle.std.specs.declared.alloc.Global.{Global}
use Rattle.col_common.specs.Outside.{Told}
use Rattle.col_set_script.specs.SetScripts.{SetStep}
use Rattle.col_set_script.specs.Steps.{filled_step, step_of}
use Rattle.col_set_script.specs.declared.step.Step.{Step}
use Rattle.col_set_tool.specs.SetOutcome.{readable}

-- the steps are these
abbrev pub AreSteps : List SetStep → Vec Step Global → Type 0
AreSteps xs found = map filled_step xs ≡ map step_of found.items

-- The steps that are expected, or the status that is; 3 is want of memory.
abbrev pub IsReadAs : Result (List SetStep) ℕ → Result (Vec Step Global) ℕ → Type 0
IsReadAs expected (Ok found) = (xs : List SetStep) × (expected ≡ Ok xs) × AreSteps xs found
IsReadAs expected (Err status) =
    (status ≡ 3) ⊎ (Contains (20 ∷ 21 ∷ []) status × (expected ≡ Err status))

-- The steps are those of what was on the source.
pub record AreStepsOn (left : Told) (found : Vec Step Global) : Type 0 where
  pub text : List ℕ
  pub told : IfSome left (λ bytes. bytes ≡ text)
  pub steps : List SetStep
  pub is : readable text ≡ Ok steps
  pub fits : AreSteps steps found

-- Why reading refuses: want of memory, a source that failed, or a script that has this status by
-- itself.
abbrev pub RefusesRead : Told → Type 0 → ℕ → Type 0
RefusesRead left Failed status = (status ≡ 3) ⊎ (((status ≡ 4) × Failed)
    ⊎ (Contains (20 ∷ 21 ∷ []) status × IfSome left (λ text. readable text ≡ Err status)))
