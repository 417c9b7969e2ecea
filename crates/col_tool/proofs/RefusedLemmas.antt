-- The statuses of refusals.
use Rattle.std.proofs.Common.{◌≡◌, ◌==◌, ℕ, suc, zero, Bool, true, false, [], ◌∷◌, ◌++◌, Contains, inl, inr, refl, arith}
use Rattle.std.specs.Prelude.{◌||◌}
use Rattle.std.proofs.lemmas.List.Elements.{All-contains, All-from_recursion, Contains-append_left, Contains-append_right}
use Rattle.col_common.specs.Refused.{code_of}
use Rattle.col_common.specs.declared.error.ColumnarError.{ColumnarError}
use Rattle.col_common.specs.declared.error.ColumnarError.TheVariants.{OutOfMemory, ReadFault, WriteFault, InvalidData, BadOrder, BadName, RequiredConflict, CannotCoerce, NumericalConflict, TooLarge, NoCodec, ForcedType, DocOrder, DocOutOfRange, TieBreakerStart, NotUtf8}
use Rattle.col_model.specs.Refusal.{Refusal, status_of, invalid_data, bad_order, bad_name, required_conflict, cannot_coerce, numerical_conflict, too_large, forced_type, doc_order, doc_out_of_range, tie_breaker_start}
use Rattle.col_writer_columns.specs.Answers.{answer_of}
use Rattle.col_headline.proofs.StatusLemmas.{code-answer}
use Rattle.col_outcome.specs.Making.{IsKnown}
use Rattle.col_tool.specs.Answer.{answers, refusals}
use Rattle.col_tool.specs.Statuses.{Exactly, check_statuses, statuses}
use Rattle.col_tool.specs.Texts.{read_refusals}

-- each refusal has a status among those of refusals
status-among : (r : Refusal) → Contains refusals (status_of r)
status-among invalid_data = (2, omega arith, refl)
status-among bad_order = (3, omega arith, refl)
status-among bad_name = (4, omega arith, refl)
status-among required_conflict = (5, omega arith, refl)
status-among cannot_coerce = (6, omega arith, refl)
status-among numerical_conflict = (7, omega arith, refl)
status-among too_large = (8, omega arith, refl)
status-among forced_type = (9, omega arith, refl)
status-among doc_order = (10, omega arith, refl)
status-among doc_out_of_range = (11, omega arith, refl)
status-among tie_breaker_start = (12, omega arith, refl)

-- so has each refusal of what is made
pub known-among : (e : ColumnarError) → IsKnown e → Contains refusals (code_of e)
known-among e (inl memory) = rw memory (0, omega arith, refl)
known-among e (inr (inl fault)) = rw fault (1, omega arith, refl)
known-among e (inr (inr known)) = rw (known.1, code-answer known.0) (status-among known.0)

-- so has a text that isn't read
pub read-among : (status : ℕ) → Contains read_refusals status → Contains refusals status
read-among status (zero, within, e) = (0, omega arith, e)
read-among status (suc zero, within, e) = (1, omega arith, e)
read-among status (suc (suc zero), within, e) = (14, omega arith, e)
read-among status (suc (suc (suc k)), within, e) = absurd (omega (arith, within))

-- the statuses of refusals are among those of answers
pub refusals-among : (status : ℕ) → Contains refusals status → Contains answers status
refusals-among status (k, within, e) = (suc (suc k), omega (arith, within), e)

-- so are those of a delivery
pub delivered-among : (status : ℕ) → Contains (0 ∷ 3 ∷ 5 ∷ []) status → Contains answers status
delivered-among status (zero, within, e) = (0, omega arith, e)
delivered-among status (suc zero, within, e) = (2, omega arith, e)
delivered-among status (suc (suc zero), within, e) = (1, omega arith, e)
delivered-among status (suc (suc (suc k)), within, e) = absurd (omega arith)

-- so are those of a check
pub check-among : (status : ℕ) → Contains check_statuses status → Contains answers status
check-among status (zero, within, e) = (0, omega arith, e)
check-among status (suc zero, within, e) = (2, omega arith, e)
check-among status (suc (suc zero), within, e) = (3, omega arith, e)
check-among status (suc (suc (suc zero)), within, e) = (1, omega arith, e)
check-among status (suc (suc (suc (suc zero))), within, e) = (4, omega arith, e)
check-among status (suc (suc (suc (suc (suc k)))), within, e) = absurd (omega (arith, within))

-- the statuses of a delivery are among those of a check
pub delivered-checks : (status : ℕ) → Contains (0 ∷ 3 ∷ 5 ∷ []) status → Contains check_statuses status
delivered-checks status (zero, within, e) = (0, omega arith, e)
delivered-checks status (suc zero, within, e) = (1, omega arith, e)
delivered-checks status (suc (suc zero), within, e) = (3, omega arith, e)
delivered-checks status (suc (suc (suc k)), within, e) = absurd (omega (arith, within))

-- the statuses of answers are among those of the program
pub answers-among : (status : ℕ) → Contains answers status → Contains statuses status
answers-among status (zero, within, e) = (0, omega arith, e)
answers-among status (suc zero, within, e) = (4, omega arith, e)
answers-among status (suc (suc zero), within, e) = (2, omega arith, e)
answers-among status (suc (suc (suc zero)), within, e) = (3, omega arith, e)
answers-among status (suc (suc (suc (suc k))), within, e) =
    let others = 6 ∷ 7 ∷ 8 ∷ 9 ∷ 10 ∷ 11 ∷ 12 ∷ 14 ∷ 15 ∷ 16 ∷ 17 ∷ 20 ∷ 21 ∷ [] in
    Contains-append_right (0 ∷ 2 ∷ 3 ∷ 4 ∷ 5 ∷ []) (others ++ 22 ∷ 23 ∷ []) status
    (Contains-append_left others (22 ∷ 23 ∷ []) status (k, omega (arith, within), e))

-- none is that of other words
abbrev pub IsAsked : ℕ → Type 0
IsAsked n = (n == 2) ≡ false

answers-asked : (status : ℕ) → Contains answers status → IsAsked status
answers-asked status among =
    All-contains IsAsked answers status (All-from_recursion IsAsked answers (
      refl,
      (
        refl,
        (
          refl,
          (
            refl,
            (refl, (refl, (refl, (refl, (refl, (refl, (refl, (refl, (refl, (refl, (refl, (refl, (refl, tt))))))))))))),
          ),
        ),
      ),
    ))
    among

-- where the words are known, a status that isn't that of others
pub asked-other : (status : ℕ) (asked : Bool) → IsAsked status → asked ≡ true → Exactly 2 status (asked ≡ false)
asked-other status true other e = record {
  only = λ two. let asked = rw two at other in cc;
  always = λ unasked. cc;
}
asked-other status false other e = cc

-- where the words are known, the status isn't that of others
pub asked-words : (status : ℕ) (asked : Bool) → Contains answers status → asked ≡ true → Exactly 2 status (asked ≡ false)
asked-words status asked among e = asked-other status asked (answers-asked status among) e

-- where the words are none that are known, it is
pub unknown-words : (status : ℕ) (known : Bool) → known ≡ false → status ≡ 2 → Exactly 2 status (known ≡ false)
unknown-words status known none two = record { only = λ same. none; always = λ unknown. inl two }

-- neither a good end nor a failed write
abbrev IsBefore : ℕ → Type 0
IsBefore n = (n == 0) || (n == 5) ≡ false

-- each refusal has such a status
refusals-before : (status : ℕ) → Contains refusals status → IsBefore status
refusals-before status among =
    All-contains IsBefore refusals status (All-from_recursion IsBefore refusals (
      refl,
      (
        refl,
        (refl, (refl, (refl, (refl, (refl, (refl, (refl, (refl, (refl, (refl, (refl, (refl, (refl, tt))))))))))))),
      ),
    ))
    among

-- no status of a refusal is that of a good end
pub refusals-not_done : (status : ℕ) → Contains refusals status → status ≡ 0 → ⊥
refusals-not_done status among same = let before = rw same at (refusals-before status among) in cc

-- no status of a refusal is that of a sink that failed
pub refusals-unwritten : (status : ℕ) → Contains refusals status → status ≡ 5 → ⊥
refusals-unwritten status among same = let before = rw same at (refusals-before status among) in cc

-- the status 4 is that of a read that failed
pub fault-read : (e : ColumnarError) → code_of e ≡ 4 → e ≡ ReadFault
fault-read OutOfMemory is = absurd (omega (arith, is))
fault-read ReadFault is = refl
fault-read WriteFault is = absurd (omega (arith, is))
fault-read InvalidData is = absurd (omega (arith, is))
fault-read BadOrder is = absurd (omega (arith, is))
fault-read BadName is = absurd (omega (arith, is))
fault-read RequiredConflict is = absurd (omega (arith, is))
fault-read CannotCoerce is = absurd (omega (arith, is))
fault-read NumericalConflict is = absurd (omega (arith, is))
fault-read TooLarge is = absurd (omega (arith, is))
fault-read NoCodec is = absurd (omega (arith, is))
fault-read ForcedType is = absurd (omega (arith, is))
fault-read DocOrder is = absurd (omega (arith, is))
fault-read DocOutOfRange is = absurd (omega (arith, is))
fault-read TieBreakerStart is = absurd (omega (arith, is))
fault-read NotUtf8 is = absurd (omega (arith, is))
