-- A block's values become their offsets from a line, one by one.
use Rattle.std.proofs.Common.{◌≡◌, ℕ, ◌+◌, ◌<◌, max, List, [], ◌∷◌, ◌++◌, length, take, drop, map, get_or, set, sym, ◌∙◌, ap, arith, length-set}
use Rattle.std.specs.List.{enumerate_from}
use Rattle.std.proofs.lemmas.List.{take_more, take_more_set, drop_more, drop-set-lt, length-take-le}
use Rattle.std.proofs.lemmas.List.Sums.{fold_push}
use Rattle.col_bits.specs.Packed.{width}
use Rattle.col_model.specs.Stats.{greatest_of}
use Rattle.col_model.specs.Training.{line_of, less_wrapped}
use Rattle.col_model.specs.Line.{line}
use Rattle.col_model.specs.U64List.{LinearParams}
use Rattle.col_model.specs.Codecs.{offset_from, offsets_from, block_line}
use Rattle.col_codecs.specs.declared.line.Line.{Line}
use Rattle.col_codecs.specs.LinearParams.{bare_params}
use Rattle.col_codecs.proofs.ListLemmas.{head-same, tail-same}
use Rattle.col_codecs.proofs.TurningLemmas.{by_position-append}

pub offsets-push : (l : LinearParams) (xs : List ℕ) (x i : ℕ) → i ≡ length xs
    → offsets_from l (xs ++ x ∷ []) ≡ offsets_from l xs ++ offset_from l (i, x) ∷ []
offsets-push l xs x i e =
    let place : 0 + length xs ≡ i = omega (arith, e) in
    by_position-append (offset_from l) 0 xs (x ∷ []) ∙ ap (λ n. offsets_from l xs ++ offset_from l (n, x) ∷ []) place

-- the first i values are offsets by now, of which the greatest is known
pub record AreOffsets (l : LinearParams) (before now : List ℕ) (i greatest : ℕ) : Type 0 where
  pub done : take i now ≡ offsets_from l (take i before)
  pub rest : drop i now ≡ drop i before
  pub long : length now ≡ length before
  pub top : greatest ≡ greatest_of (take i now)

-- one value more
pub AreOffsets-push : (l : LinearParams) (before now : List ℕ) (i greatest offset : ℕ)
    → AreOffsets l before now i greatest → i < length now → offset ≡ offset_from l (i, get_or now i 0)
    → AreOffsets l before (set now i offset) (i + 1) (max greatest offset)
AreOffsets-push l before now i greatest offset h room e =
    let there : i < length before = omega (arith, h.long, room) in
    let parts : get_or now i 0 ∷ drop (i + 1) now ≡ get_or before i 0 ∷ drop (i + 1) before =
    sym (drop_more now i 0 room) ∙ h.rest ∙ drop_more before i 0 there in
    let same = head-same (get_or now i 0) (get_or before i 0) (drop (i + 1) now) (drop (i + 1) before) parts in
    let put : take (i + 1) (set now i offset) ≡ take i now ++ offset ∷ [] = take_more_set now i offset room in
    let from : i ≡ length (take i before) = omega (arith, length-take-le i before (omega arith)) in
    record {
      done =
          put ∙ ap (λ ys. ys ++ offset ∷ []) h.done
          ∙ ap (λ o. offsets_from l (take i before) ++ o ∷ []) (e ∙ ap (λ x. offset_from l (i, x)) same)
          ∙ sym (offsets-push l (take i before) (get_or before i 0) i from)
          ∙ ap (offsets_from l) (sym (take_more before i 0 there));
      rest =
          drop-set-lt (i + 1) now i offset (omega arith)
          ∙ tail-same (get_or now i 0) (get_or before i 0) (drop (i + 1) now) (drop (i + 1) before) parts;
      long = length-set now i offset ∙ h.long;
      top = ap (λ g. max g offset) h.top ∙ sym (fold_push max 0 (take i now) offset) ∙ ap greatest_of (sym put);
    }

-- a trained line with the width of the greatest offset
pub block_line-held : (l : Line) (vals now : List ℕ) (greatest w : ℕ)
    → ◌≡◌ {A = ℕ × ℕ} (l.slope, l.intercept) (line_of vals) → now ≡ offsets_from (bare_params l) vals
    → greatest ≡ greatest_of now → w ≡ width greatest
    → let held : LinearParams = record { slope = l.slope; intercept = l.intercept; offset_width = w } in held ≡
    block_line vals
unfolding block_line
block_line-held l vals now greatest w e o g p =
    let bare : LinearParams = record { slope = (line_of vals).0; intercept = (line_of vals).1; offset_width = 0 } in
    let same : bare_params l ≡ bare = λ i. record { slope = (e i).0; intercept = (e i).1; offset_width = 0 } in
    let wide : w ≡ width (greatest_of (offsets_from bare vals)) =
    p ∙ ap width (g ∙ ap greatest_of (o ∙ ap (λ s. offsets_from s vals) same)) in
    λ i. record { slope = (e i).0; intercept = (e i).1; offset_width = wide i }

-- the offsets don't depend on the width
pub offsets-held : (l : Line) (vals : List ℕ) → ◌≡◌ {A = ℕ × ℕ} (l.slope, l.intercept) (line_of vals)
    → offsets_from (bare_params l) vals ≡ offsets_from (block_line vals) vals
unfolding block_line
offsets-held l vals e = λ i. map (λ (p : ℕ × ℕ). less_wrapped p.1 (line (e i).0 (e i).1 p.0)) (enumerate_from 0 vals)
