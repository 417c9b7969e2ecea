-- A segment with one more record call.
use Rattle.std.proofs.Common.{◌≡◌, List, [], ◌∷◌, ◌++◌, Result, Ok, Err, refl, sym, ap}
use Rattle.col_model.specs.Recording.{Call, content_after, content_after_all}
use Rattle.col_model.specs.Refusal.{Refusal, ◌>>=◌}
use Rattle.col_model.specs.Written.{Recorded}
use Rattle.col_program.specs.Script.{Segment}
use Rattle.col_script.specs.Segments.{filled, answered, content_behind, after_call}
use Rattle.col_set_script.specs.SetScripts.{with_call}

-- one more call behind the others
behind-last : (w : Recorded) (cs : List Call) (c : Call)
    → answered (content_after_all w (cs ++ c ∷ [])) ≡ content_behind (answered (content_after_all w cs)) c
behind-last w [] c = go (content_after w c)
  where
    go : (r : Result Recorded Refusal) → answered (r >>= λ next. Ok next) ≡ answered r
    go (Ok v) = refl
    go (Err e) = refl
behind-last w (d ∷ cs) c = go (content_after w d) (λ v. behind-last v cs c)
  where
    go : (r : Result Recorded Refusal)
        → ((v : Recorded) → answered (content_after_all v (cs ++ c ∷ [])) ≡ content_behind (answered (content_after_all v cs)) c)
        → answered (r >>= λ next. content_after_all next (cs ++ c ∷ []))
        ≡ content_behind (answered (r >>= λ next. content_after_all next cs)) c
    go (Ok v) again = again v
    go (Err e) again = refl

-- a segment with one more call is what it was filled with, and this call
pub filled-call : (c : Call) (s : Segment) → after_call (filled s) c ≡ filled (with_call c s)
filled-call c s = ap (λ k. record { count = s.count; content = k }) (sym (behind-last [] s.calls c))
