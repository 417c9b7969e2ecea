-- Laws about the definitions: public calls ensure them, and have nothing else to do.
use Rattle.std.specs.Prelude.{◌≡◌, ℕ, ◌-◌, ◌^◌, ◌<◌, ◌≤◌, List, ◌∷◌, ◌++◌, length, Some}
use Rattle.std.specs.Int.{◌∣◌}
use Rattle.std.specs.List.{AllByRecursion}
use Rattle.col_common.specs.Reading.{IsBytes}
use Rattle.col_common.specs.VInt.{vint, vint_bytes}
use Rattle.col_model.specs.Stats.{stats_of, least_of, greatest_of}
use Rattle.col_common.specs.Ascending.{AreBelow}
use Rattle.col_model.specs.U64List.{values64, bitpacked_bytes}
use Rattle.col_model.specs.Codecs.{codec_bytes, chosen_codec}

-- What a number is spelled by is read as it, whatever follows, and what is read as it is that.
pub record NumbersHaveOneForm : Type 0 where
  pub read_back : (n : ℕ) (rest : List ℕ) → n < 2 ^ 64
      → vint (vint_bytes n ++ rest) ≡ Some (n, rest)
  pub one_form : (bytes : List ℕ) (n : ℕ) (rest : List ℕ) → IsBytes bytes
      → vint bytes ≡ Some (n, rest) → bytes ≡ vint_bytes n ++ rest

-- a number divides how far each item lies above each other one
abbrev pub DividesDifferences : ℕ → List ℕ → Type 0
DividesDifferences d xs = AllByRecursion (λ x. AllByRecursion (λ y. d ∣ x - y) xs) xs

-- The divisor of a list's statistics divides all differences of its items, and is the greatest that
-- does where two items differ; where none do, each number divides all differences, and it is 1.
pub record DivisorIsGreatest : Type 0 where
  pub divides : (xs : List ℕ) → DividesDifferences (stats_of xs).divisor xs
  pub greatest : (xs : List ℕ) (d : ℕ) → least_of xs < greatest_of xs → DividesDifferences d xs
      → d ≤ (stats_of xs).divisor
  pub one : (xs : List ℕ) → least_of xs ≡ greatest_of xs → (stats_of xs).divisor ≡ 1

-- A list is read back from its bytes under Bitpacked: numbers below 2 ^ 64, fewer than 2 ^ 32.
abbrev pub BitpackedIsReadBack : Type 0
BitpackedIsReadBack = (xs : List ℕ) → AreBelow (2 ^ 64) xs → length xs < 2 ^ 32
    → values64 (bitpacked_bytes xs) ≡ Some xs

-- The same under Linear.
abbrev pub LinearIsReadBack : Type 0
LinearIsReadBack = (xs : List ℕ) → AreBelow (2 ^ 64) xs → length xs < 2 ^ 32
    → values64 (codec_bytes 1 xs) ≡ Some xs

-- The same under BlockwiseLinear.
abbrev pub BlockwiseIsReadBack : Type 0
BlockwiseIsReadBack = (xs : List ℕ) → AreBelow (2 ^ 64) xs → length xs < 2 ^ 32
    → values64 (codec_bytes 2 xs) ≡ Some xs

-- The same under the codec that is chosen of any that are offered.
abbrev pub ChosenIsReadBack : Type 0
ChosenIsReadBack = (codecs xs : List ℕ) (codec : ℕ) → AreBelow (2 ^ 64) xs
    → length xs < 2 ^ 32 → chosen_codec xs codecs ≡ Some codec
    → values64 (codec_bytes codec xs) ≡ Some xs

-- Bytes that stand for a list under Bitpacked, whose code is 0, are its one form.
abbrev pub BitpackedHasOneForm : Type 0
BitpackedHasOneForm = (bytes xs : List ℕ) → IsBytes bytes → values64 (0 ∷ bytes) ≡ Some xs
    → 0 ∷ bytes ≡ bitpacked_bytes xs
