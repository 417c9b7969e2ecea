-- What is read of the text on the source.
use Rattle.std.specs.Prelude.{◌≡◌, ◌≤◌, ◌+◌, ℕ, List, [], ◌∷◌, true, false, length, nat_lt, Contains}
use Rattle.std.specs.Prelude.{Result, IfErr, IfOk, IfSome, OnOk}
use Rattle.std.specs.declared.alloc.Global.{Global}
use Rattle.std.specs.declared.vec.Vec.{Vec}
use Rattle.col_common.specs.Causes.{Rose}
use Rattle.col_common.specs.Outside.{Told, IsAtEnd, TakesAtMost}
use Rattle.col_program.specs.Outcome.{max_script_length}
use Rattle.col_tool.specs.Answer.{refusal_status}
use Rattle.col_tool.specs.declared.refusal.Refusal.{Refusal}

-- the statuses of refusals of a text that is read
abbrev pub read_refusals : List ℕ
read_refusals = 3 ∷ 4 ∷ 21 ∷ []

-- All that is on the source was read, where that isn't too long; a refusal is want of memory, a
-- fault, or that it is.
pub record ReadsText (left left' : Told) (faults faults' : ℕ)
    (result : Result (Vec ℕ Global) Refusal) : Type 0 where
  pub text : IfOk result (λ text. IfSome left (λ bytes. bytes ≡ text.items))
  pub short : IfOk result (λ text. nat_lt max_script_length (length text.items) ≡ false)
  pub ended : OnOk result (IsAtEnd left')
  pub among : IfErr result (λ e. Contains read_refusals (refusal_status e))
  pub read_fault : IfErr result (λ e. refusal_status e ≡ 4 → Rose faults faults')
  pub long : IfErr result (λ e. refusal_status e ≡ 21 →
      IfSome left (λ bytes. nat_lt max_script_length (length bytes) ≡ true))
  pub later : faults ≤ faults'
  pub taken : TakesAtMost (max_script_length + 1) left left'
