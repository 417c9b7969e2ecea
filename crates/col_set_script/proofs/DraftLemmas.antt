-- What a draft makes of a piece.
use Rattle.std.proofs.Common.{◌≡◌, ℕ, Bool, true, false, cond, List, ◌∷◌, filter, length, Option, Some, None, Result, Ok, Err, refl, ◌∙◌, ap}
use Rattle.std.specs.Prelude.{nat_lt, IfOk}
use Rattle.std.specs.declared.alloc.AllocError.{AllocError}
use Rattle.col_common.specs.Reading.{◌>>=◌, only_if}
use Rattle.col_model.specs.File.{for_each}
use Rattle.col_set_script.specs.SetScripts.{SetLine, set_line_spelled}
use Rattle.col_set_script.specs.Drafts.{DraftParts, draft_parts, after_line, steps_with, if_taken, TakesLine, TakesPiece}
use Rattle.col_set_script.specs.declared.draft.Draft.{Draft}

-- what is left of some parts behind a line
line-first : (p q : DraftParts) (line : SetLine) (taken : Bool) → after_line p line ≡ only_if taken q
    → (o : Option (List SetLine))
    → (o >>= (λ ls. Some (line ∷ ls)) >>= steps_with p) ≡ if_taken taken (o >>= steps_with q)
unfolding steps_with
line-first p q line true e None = refl
line-first p q line false e None = refl
line-first p q line true e (Some ls) = ap (λ o. o >>= λ q. steps_with q ls) e
line-first p q line false e (Some ls) = ap (λ o. o >>= λ q. steps_with q ls) e

-- a draft takes a piece as it does the line that the piece spells
pub takes-piece : (old new : Draft) (piece : List ℕ) (line : SetLine) (r : Result Bool AllocError)
    → nat_lt 0 (length piece) ≡ true → set_line_spelled piece ≡ Some line
    → IfOk r (TakesLine line old new) → IfOk r (TakesPiece piece old new)
takes-piece old new piece line (Err e) some spelled takes = tt
takes-piece old new piece line (Ok taken) some spelled takes = λ pieces.
    let p = draft_parts old in
    let left : List (List ℕ) = filter (λ piece. nat_lt 0 (length piece)) pieces in
    ap (λ b. for_each set_line_spelled (cond b (piece ∷ left) left) >>= steps_with p) some
    ∙ ap (λ o. o >>= (λ l. for_each set_line_spelled left >>= λ ls. Some (l ∷ ls)) >>= steps_with p) spelled
    ∙ line-first p (draft_parts new) line taken takes (for_each set_line_spelled left)
