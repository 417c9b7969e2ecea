-- Worked rows of the codecs, computed.
use Rattle.std.specs.Prelude.{◌≡◌, ℕ, List, [], ◌∷◌, Some, None, map, refl}
use Rattle.std.specs.List.{range_with_len, enumerate_from}
use Rattle.col_model.proofs.OnLiterals.{col_model_on_literals}
use Rattle.col_model.specs.Stats.{greatest_of}
use Rattle.col_model.specs.Training.{line_of, less_wrapped}
use Rattle.col_model.specs.Line.{line}
use Rattle.col_model.specs.U64List.{bitpacked_bytes}
use Rattle.col_model.specs.Codecs.{chosen_codec, codec_bytes}

-- the numbers 100 to 611
abbrev rising : List ℕ
rising = range_with_len 100 512

linear_row : codec_bytes 1 rising ≡ 0x01 ∷ 0xe4 ∷ 0x81 ∷ 0x7f ∷ 0x83 ∷ 0x00 ∷ 0x84 ∷ 0 ∷ 0 ∷ 0 ∷ 0 ∷ 0x90 ∷ 0xe4 ∷ 0 ∷ []
unfolding col_model_on_literals
linear_row = refl

blockwise_row : codec_bytes 2 rising
    ≡ 0x02 ∷ 0xe4 ∷ 0x81 ∷ 0x7f ∷ 0x83 ∷ 0x00 ∷ 0x84 ∷ 0 ∷ 0 ∷ 0 ∷ 0 ∷ 0x90 ∷ 0x80 ∷ 0 ∷ 7 ∷ 0 ∷ 0 ∷ 0 ∷ 0 ∷ 0 ∷ 0
    ∷ 0 ∷ []
unfolding col_model_on_literals
blockwise_row = refl

-- under Bitpacked the bytes are those of the one form
bitpacked_row : codec_bytes 0 rising ≡ bitpacked_bytes rising
unfolding col_model_on_literals
bitpacked_row = refl

all_offered : chosen_codec rising (0 ∷ 1 ∷ 2 ∷ []) ≡ Some 1
unfolding col_model_on_literals
all_offered = refl

two_offered : chosen_codec rising (0 ∷ 2 ∷ []) ≡ Some 2
unfolding col_model_on_literals
two_offered = refl

few_under_linear : chosen_codec (range_with_len 100 511) (1 ∷ []) ≡ None
unfolding col_model_on_literals
few_under_linear = refl

abbrev falling : List ℕ
falling = 13 ∷ 12 ∷ 12 ∷ 11 ∷ 11 ∷ 11 ∷ []

falling_row : greatest_of (map (λ p. less_wrapped p.1 (line (line_of falling).0 (line_of falling).1 p.0)) (enumerate_from 0 falling)) ≡ 1
unfolding col_model_on_literals
falling_row = refl
