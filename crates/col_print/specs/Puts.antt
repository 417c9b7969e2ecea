-- A text that is put piece by piece into an out, which never refuses a piece: what becomes of the
-- whole is told at the end.
use Rattle.std.specs.Prelude.{◌≡◌, ℕ, List, ◌++◌, Result, OnOk, OnErr}
use Rattle.col_common.specs.Causes.{HasCause}
use Rattle.col_common.specs.Outside.{SeenSink, Appends, AppendsPrefix}
use Rattle.col_common.specs.declared.outside.HandleError.{HandleError}

-- what contracts see of an out: which sink is behind it, what that holds, what is still to be
-- written there, and whether a write was refused
pub record SeenOut : Type 0 where
  pub place : ℕ
  pub sink : SeenSink
  pub pending : List ℕ
  pub ended : Result (Unit {0}) HandleError

-- This text was put since the sink stood so: what it took and what is pending are the text; where a
-- write was refused, it took a front of the text.
pub record HasPut (start : SeenSink) (o : SeenOut) (text : List ℕ) : Type 0 where
  pub whole : OnOk o.ended ((front : List ℕ) × Appends start o.sink front
      × (front ++ o.pending ≡ text))
  pub part : OnErr o.ended (AppendsPrefix start o.sink text)
  pub cause : HasCause start.faults o.sink.faults o.ended

-- behind whatever text was put before, these bytes were put, for the same sink
unfoldable pub Puts : SeenOut → SeenOut → List ℕ → Type 0
Puts old new bytes = (new.place ≡ old.place) × ((start : SeenSink) (text : List ℕ)
    → HasPut start old text → HasPut start new (text ++ bytes))
