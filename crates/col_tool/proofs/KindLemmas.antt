-- Words that ask for one thing don't ask for another.
use Rattle.std.proofs.Common.{◌≡◌, ◌∙◌, ◌&&◌, ℕ, zero, suc, arith, Bool, List, [], ◌∷◌, true, false, Option, Some, None, String, refl, sym, ap}
use Rattle.std.proofs.lemmas.Bool.{and_parts, eqb-true, ne_eqb, true≢false}
use Rattle.std.specs.Prelude.{◌^◌, ◌==◌, nat_lt, bytes_eq, codes, if◌then◌else◌}
use Rattle.std.specs.declared.alloc.Global.{Global}
use Rattle.col_model.proofs.OrderingLaws.{bytes_eq-true}
use Rattle.col_program.specs.Outcome.{are_check_words, are_merge_words, gen_number, number_word}
use Rattle.col_tool.specs.Exchanges.{are_export_words, are_import_words}
use Rattle.col_tool.specs.Expected.{texts, ask_for_check, ask_for_export, ask_for_import, ask_for_script, ask_for_upgrade}
use Rattle.col_tool.specs.Upgrades.{are_upgrade_words}

-- words whose first one is another are others
another : (first : List ℕ) (rest others : Bool) (word other : List ℕ) → (bytes_eq word other ≡ false)
    → (bytes_eq first word && rest) ≡ true → (bytes_eq first other && others) ≡ true → ⊥
another first rest others word other differ a b =
    let is = bytes_eq-true first word (and_parts (bytes_eq first word) rest a).0 in
    let same = (and_parts (bytes_eq first other) others b).0 in
    true≢false (sym same ∙ ap (λ w. bytes_eq w other) is ∙ differ)

-- words ask for an upgrade where there is one input
pub upgraded-one : (words : List (String Global)) (n : ℕ) → ask_for_upgrade words n ≡ true → n ≡ 1
upgraded-one words n asked = by (texts words) asked
  where
    by : (words : List (List ℕ)) → are_upgrade_words words n ≡ true → n ≡ 1
    by [] asked = cc
    by (a ∷ []) asked = cc
    by (a ∷ b ∷ []) asked = cc
    by (a ∷ b ∷ c ∷ []) asked = eqb-true n 1 (and_parts (bytes_eq a (codes "upgrade")) (n == 1) asked).1
    by (a ∷ b ∷ c ∷ d ∷ words) asked = cc

-- words that ask for an upgrade don't ask for a check
pub upgraded-unchecked : (words : List (String Global)) (n : ℕ) → ask_for_upgrade words n ≡ true → ask_for_check words n ≡ true → ⊥
upgraded-unchecked words n upgraded asked = by (texts words) upgraded asked
  where
    by : (words : List (List ℕ)) → are_upgrade_words words n ≡ true → are_check_words words n ≡ true → ⊥
    by [] upgraded asked = cc
    by (a ∷ []) upgraded asked = cc
    by (a ∷ b ∷ []) upgraded asked = cc
    by (a ∷ b ∷ c ∷ words) upgraded asked = cc

-- words that ask for an upgrade don't ask for the script: their first word is another one
pub upgraded-unasked : (words : List (String Global)) (n : ℕ) → ask_for_upgrade words n ≡ true → ask_for_script words n ≡ true → ⊥
upgraded-unasked words n upgraded asked = by (texts words) upgraded asked
  where
    by : (words : List (List ℕ)) → are_upgrade_words words n ≡ true → are_merge_words words n ≡ true → ⊥
    by [] upgraded asked = cc
    by (a ∷ []) upgraded asked = cc
    by (a ∷ b ∷ []) upgraded asked = cc
    by (a ∷ b ∷ c ∷ []) upgraded asked =
        let both = and_parts (bytes_eq a (codes "merge") && (1 == n)) (nat_lt n (2 ^ 16)) asked in
        another a (n == 1) (1 == n) (codes "upgrade") (codes "merge") refl upgraded both.0
    by (a ∷ b ∷ c ∷ d ∷ words) upgraded asked = cc

-- words that ask for an upgrade don't ask for an export
pub upgraded-unexported : (words : List (String Global)) (n : ℕ) → ask_for_upgrade words n ≡ true → ask_for_export words n ≡ true → ⊥
upgraded-unexported words n upgraded asked = by (texts words) upgraded asked
  where
    by : (words : List (List ℕ)) → are_upgrade_words words n ≡ true → are_export_words words n ≡ true → ⊥
    by [] upgraded asked = cc
    by (a ∷ []) upgraded asked = cc
    by (a ∷ b ∷ []) upgraded asked = cc
    by (a ∷ b ∷ c ∷ []) upgraded asked = another a (n == 1) (n == 1) (codes "upgrade") (codes "export") refl upgraded asked
    by (a ∷ b ∷ c ∷ d ∷ words) upgraded asked = cc

-- words that ask for an upgrade don't ask for an import
pub upgraded-unimported : (words : List (String Global)) (n : ℕ) → ask_for_upgrade words n ≡ true → ask_for_import words n ≡ true → ⊥
upgraded-unimported words n upgraded asked = by (texts words) upgraded asked
  where
    by : (words : List (List ℕ)) → are_upgrade_words words n ≡ true → are_import_words words n ≡ true → ⊥
    by [] upgraded asked = cc
    by (a ∷ []) upgraded asked = cc
    by (a ∷ b ∷ []) upgraded asked = cc
    by (a ∷ b ∷ c ∷ words) upgraded asked = cc

-- words ask for an export where there is one input
pub exported-one : (words : List (String Global)) (n : ℕ) → ask_for_export words n ≡ true → n ≡ 1
exported-one words n asked = by (texts words) asked
  where
    by : (words : List (List ℕ)) → are_export_words words n ≡ true → n ≡ 1
    by [] asked = cc
    by (a ∷ []) asked = cc
    by (a ∷ b ∷ []) asked = cc
    by (a ∷ b ∷ c ∷ []) asked = eqb-true n 1 (and_parts (bytes_eq a (codes "export")) (n == 1) asked).1
    by (a ∷ b ∷ c ∷ d ∷ words) asked = cc

-- words that ask for an export don't ask for an import
pub exported-unimported : (words : List (String Global)) (n : ℕ) → ask_for_export words n ≡ true → ask_for_import words n ≡ true → ⊥
exported-unimported words n exported asked = by (texts words) exported asked
  where
    by : (words : List (List ℕ)) → are_export_words words n ≡ true → are_import_words words n ≡ true → ⊥
    by [] exported asked = cc
    by (a ∷ []) exported asked = cc
    by (a ∷ b ∷ []) exported asked = cc
    by (a ∷ b ∷ c ∷ words) exported asked = cc

-- nor for a check
pub exported-unchecked : (words : List (String Global)) (n : ℕ) → ask_for_export words n ≡ true → ask_for_check words n ≡ true → ⊥
exported-unchecked words n exported asked = by (texts words) exported asked
  where
    by : (words : List (List ℕ)) → are_export_words words n ≡ true → are_check_words words n ≡ true → ⊥
    by [] exported asked = cc
    by (a ∷ []) exported asked = cc
    by (a ∷ b ∷ []) exported asked = cc
    by (a ∷ b ∷ c ∷ words) exported asked = cc

-- nor for the script
pub exported-unasked : (words : List (String Global)) (n : ℕ) → ask_for_export words n ≡ true → ask_for_script words n ≡ true → ⊥
exported-unasked words n exported asked = by (texts words) exported asked
  where
    by : (words : List (List ℕ)) → are_export_words words n ≡ true → are_merge_words words n ≡ true → ⊥
    by [] exported asked = cc
    by (a ∷ []) exported asked = cc
    by (a ∷ b ∷ []) exported asked = cc
    by (a ∷ b ∷ c ∷ []) exported asked =
        let both = and_parts (bytes_eq a (codes "merge") && (1 == n)) (nat_lt n (2 ^ 16)) asked in
        another a (n == 1) (1 == n) (codes "export") (codes "merge") refl exported both.0
    by (a ∷ b ∷ c ∷ d ∷ words) exported asked = cc

-- words ask for an import where there is no input
pub imported-none : (words : List (String Global)) (n : ℕ) → ask_for_import words n ≡ true → n ≡ 0
imported-none words n asked = by (texts words) asked
  where
    by : (words : List (List ℕ)) → are_import_words words n ≡ true → n ≡ 0
    by [] asked = cc
    by (a ∷ []) asked = cc
    by (a ∷ b ∷ []) asked = eqb-true n 0 (and_parts (bytes_eq a (codes "import")) (n == 0) asked).1
    by (a ∷ b ∷ c ∷ words) asked = cc

-- words that ask for an import don't ask for the script
pub imported-unasked : (words : List (String Global)) (n : ℕ) → ask_for_import words n ≡ true → ask_for_script words n ≡ true → ⊥
imported-unasked words n imported asked = by (texts words) imported asked
  where
    by : (words : List (List ℕ)) → are_import_words words n ≡ true → are_merge_words words n ≡ true → ⊥
    by [] imported asked = cc
    by (a ∷ []) imported asked = cc
    by (a ∷ b ∷ []) imported asked =
        let both = and_parts (bytes_eq a (codes "merge") && (0 == n)) (nat_lt n (2 ^ 16)) asked in
        another a (n == 0) (0 == n) (codes "import") (codes "merge") refl imported both.0
    by (a ∷ b ∷ c ∷ words) imported asked = cc

-- words ask for a check where there is one input
pub checked-one : (words : List (String Global)) (n : ℕ) → ask_for_check words n ≡ true → n ≡ 1
checked-one words n asked = by (texts words) asked
  where
    by : (words : List (List ℕ)) → are_check_words words n ≡ true → n ≡ 1
    by [] asked = cc
    by (a ∷ []) asked = cc
    by (a ∷ b ∷ []) asked = eqb-true n 1 (and_parts (bytes_eq a (codes "check")) (n == 1) asked).1
    by (a ∷ b ∷ c ∷ words) asked = cc

-- words that ask for an import don't ask for a check: they have another count of inputs
pub imported-unchecked : (words : List (String Global)) (n : ℕ) → ask_for_import words n ≡ true → ask_for_check words n ≡ true → ⊥
imported-unchecked words n imported asked =
    let none = imported-none words n imported in
    let one = checked-one words n asked in
    omega (arith, none, one)

-- words that ask for a check don't ask for the script
pub checked-unasked : (words : List (String Global)) (n : ℕ) → ask_for_check words n ≡ true → ask_for_script words n ≡ true → ⊥
checked-unasked words n checked asked = by (texts words) checked asked
  where
    by : (words : List (List ℕ)) → are_check_words words n ≡ true → are_merge_words words n ≡ true → ⊥
    by [] checked asked = cc
    by (a ∷ []) checked asked = cc
    by (a ∷ b ∷ []) checked asked =
        let one = eqb-true n 1 (and_parts (bytes_eq a (codes "check")) (n == 1) checked).1 in
        let both = and_parts (bytes_eq a (codes "merge") && (0 == n)) (nat_lt n (2 ^ 16)) asked in
        let none = eqb-true 0 n (and_parts (bytes_eq a (codes "merge")) (0 == n) both.0).1 in
        omega (arith, one, none)
    by (a ∷ b ∷ c ∷ words) checked asked = cc

-- words that ask for the script of a number ask for none on the source: they have another count
-- of inputs
pub generated-unasked : (words : List (String Global)) (n number : ℕ) → gen_number (texts words) n ≡ Some number
    → ask_for_script words n ≡ true → ⊥
generated-unasked words n number some asked = by (texts words) n some asked
  where
    never : (a b : Bool) → (a && false && b) ≡ true → ⊥
    never true b h = cc
    never false b h = cc

    chosen : (a b : Bool) (o : Option ℕ) → b ≡ false → (if a && b then o else None) ≡ Some number → ⊥
    chosen true true o none h = cc
    chosen true false o none h = cc
    chosen false b o none h = cc

    by : (words : List (List ℕ)) (n : ℕ) → gen_number words n ≡ Some number → are_merge_words words n ≡ true → ⊥
    by [] n some asked = cc
    by (a ∷ []) n some asked = cc
    by (a ∷ b ∷ []) n some asked = cc
    by (a ∷ b ∷ c ∷ []) zero some asked = never (bytes_eq a (codes "merge")) (nat_lt 0 (2 ^ 16)) asked
    by (a ∷ b ∷ c ∷ []) (suc n) some asked =
        chosen (bytes_eq a (codes "gen")) (suc n == 0) (number_word c) (ne_eqb (suc n) 0 (λ e. omega (arith, e)))
        some
    by (a ∷ b ∷ c ∷ d ∷ words) n some asked = cc
