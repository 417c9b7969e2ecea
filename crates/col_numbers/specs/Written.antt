-- What is written of a list, and why none is.
use Rattle.std.specs.Prelude.{◌≡◌, ◌^◌, ℕ, List, [], ◌∷◌, length, map, nat_le, Option, Some, None, MatchOption, if◌then◌else◌}
use Rattle.col_common.specs.Outside.{SeenSink, Appends}
use Rattle.col_common.specs.declared.error.ColumnarError.{ColumnarError}
use Rattle.col_common.specs.declared.error.ColumnarError.TheVariants.{NoCodec, TooLarge}
use Rattle.col_model.specs.U64List.{values64}
use Rattle.col_model.specs.Codecs.{chosen_codec, estimate}
use Rattle.col_numbers.specs.declared.serialize.Candidate.{Candidate}
use Rattle.col_numbers.specs.declared.codec_type.CodecType.{CodecType}
use Rattle.col_numbers.specs.CodecTypes.{code_of}
use Rattle.col_numbers.specs.Estimators.{estimator_code, HasFinalized}

-- bytes were added that stand for the list
abbrev pub AppendsList : SeenSink → SeenSink → List ℕ → Type 0
AppendsList old new xs = (bytes : List ℕ) × (values64 bytes ≡ Some xs) × Appends old new bytes

-- where none of the offered codecs applies
abbrev pub no_codec_of : Option ℕ → Option ColumnarError
no_codec_of None = Some NoCodec
no_codec_of (Some codec) = None

-- the codec that is chosen of those that are offered
abbrev pub chosen_of : List ℕ → List CodecType → Option ℕ
chosen_of xs offered = chosen_codec xs (map code_of offered)

-- The refusal of a list, before its first byte: no codec is offered; more than 2 ^ 32 - 1 values;
-- no codec applies.
abbrev pub list_refusal : List ℕ → List ℕ → Option ColumnarError
list_refusal xs [] = Some NoCodec
list_refusal xs (c ∷ cs) =
    if nat_le (2 ^ 32) (length xs) then Some TooLarge else no_codec_of (chosen_codec xs (c ∷ cs))

-- an estimator that has collected a list, with its estimate
pub record IsCandidate (xs : List ℕ) (c : Candidate) : Type 0 where
  pub finalized : HasFinalized c.estimator xs
  pub estimated : estimate xs (estimator_code c.estimator) ≡ Some c.num_bytes

-- the candidate of the codec that is chosen for a list, none where none is
abbrev pub HasBest : List ℕ → List ℕ → Option Candidate → Type 0
HasBest xs codecs found = MatchOption found (chosen_codec xs codecs ≡ None)
    (λ c. (chosen_codec xs codecs ≡ Some (estimator_code c.estimator)) × IsCandidate xs c)
