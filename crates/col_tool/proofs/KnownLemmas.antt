-- What words ask for, by tests that were made of them.
use Rattle.std.proofs.Common.{◌≡◌, ◌∙◌, ℕ, Bool, List, true, false, Some, None, String, inl, inr, refl, sym, ap}
use Rattle.std.proofs.lemmas.Bool.{or_cases, or_left, or_right, true≢false}
use Rattle.std.specs.Prelude.{◌+◌, ◌⊎◌}
use Rattle.std.specs.declared.alloc.Global.{Global}
use Rattle.col_common.specs.Outside.{TakesAtMost, Told}
use Rattle.col_program.specs.Outcome.{gen_number, max_script_length}
use Rattle.col_tool.specs.Expected.{texts, ask_for_check, ask_for_export, ask_for_import, ask_for_script, ask_for_source, ask_for_upgrade, are_known}
use Rattle.col_tool.specs.Statuses.{ReadsScript}

-- words ask for neither an upgrade nor an export nor an import
abbrev pub AsksElse : List (String Global) → ℕ → Type 0
AsksElse words n = (ask_for_upgrade words n ≡ false) × ((ask_for_export words n ≡ false) × (ask_for_import words n ≡ false))

-- so it is where each test fails
pub asks-else : (words : List (String Global)) (n : ℕ) (u e i : Bool) → u ≡ ask_for_upgrade words n → u ≡ false
    → e ≡ ask_for_export words n → e ≡ false → i ≡ ask_for_import words n → i ≡ false → AsksElse words n
asks-else words n u e i upgrade no_upgrade exports no_export imports no_import =
    (sym upgrade ∙ no_upgrade, (sym exports ∙ no_export, sym imports ∙ no_import))

-- a test that failed isn't passed
pub unpassed : (ask : ℕ → Bool) (m n : ℕ) (found : Bool) → m ≡ n → found ≡ ask m → found ≡ false → ask n ≡ true → ⊥
unpassed ask m n found same is none asked = true≢false (sym (ap ask same ∙ asked) ∙ sym is ∙ none)

-- words that ask for an upgrade are known
pub known-upgraded : (words : List (String Global)) (n : ℕ) → ask_for_upgrade words n ≡ true → are_known words n ≡ true
known-upgraded words n asked = rw asked refl

-- so are words that ask for an export
pub known-exported : (words : List (String Global)) (n : ℕ) → ask_for_upgrade words n ≡ false → ask_for_export words n ≡ true
    → are_known words n ≡ true
known-exported words n other asked = rw (other, asked) refl

-- so are words that ask for an import
pub known-imported : (words : List (String Global)) (n : ℕ) → ask_for_upgrade words n ≡ false → ask_for_export words n ≡ false
    → ask_for_import words n ≡ true → are_known words n ≡ true
known-imported words n other unexported asked = rw (other, unexported, asked) refl

-- so are words that ask for a check
pub known-checked : (words : List (String Global)) (n : ℕ) → AsksElse words n → ask_for_check words n ≡ true
    → are_known words n ≡ true
known-checked words n other asked = rw (other.0, other.1.0, other.1.1, asked) refl

-- which of these words are known
pub known-asked : (words : List (String Global)) (n : ℕ) → AsksElse words n → ask_for_check words n ≡ false
    → gen_number (texts words) n ≡ None → ask_for_script words n ≡ true → are_known words n ≡ true
known-asked words n other unchecked none asked = rw (other.0, other.1.0, other.1.1, unchecked, none, asked) refl

-- words that ask for a generated script are known
pub known-generated : (words : List (String Global)) (n number : ℕ) → AsksElse words n
    → ask_for_check words n ≡ false → gen_number (texts words) n ≡ Some number → are_known words n ≡ true
known-generated words n number other unchecked some = rw (other.0, other.1.0, other.1.1, unchecked, some) refl

-- words that ask for nothing of all this aren't known
pub unknown : (words : List (String Global)) (n : ℕ) → AsksElse words n → ask_for_check words n ≡ false
    → gen_number (texts words) n ≡ None → ask_for_script words n ≡ false → are_known words n ≡ false
unknown words n other unchecked none unasked = rw (other.0, other.1.0, other.1.1, unchecked, none, unasked) refl

-- ---- what is on the source

-- it is asked for by words that ask for an import
pub import-source : (words : List (String Global)) (n : ℕ) → ask_for_import words n ≡ true → ask_for_source words n ≡ true
import-source words n asked = or_left (ask_for_import words n) (ask_for_script words n) asked

-- and by words that ask for the script
pub script-source : (words : List (String Global)) (n : ℕ) → ask_for_script words n ≡ true → ask_for_source words n ≡ true
script-source words n asked = or_right (ask_for_import words n) (ask_for_script words n) asked

-- and by no other words
pub no-source : (words : List (String Global)) (n : ℕ) → (ask_for_import words n ≡ true → ⊥) → (ask_for_script words n ≡ true → ⊥)
    → ask_for_source words n ≡ true → ⊥
no-source words n unimported unasked asked = by (or_cases (ask_for_import words n) (ask_for_script words n) asked)
  where
    by : (ask_for_import words n ≡ true) ⊎ (ask_for_script words n ≡ true) → ⊥
    by (inl imported) = unimported imported
    by (inr script) = unasked script

-- where it is asked for, it may be taken
pub reads-source : (asked : Bool) (left left' : Told) (faults faults' : ℕ) → asked ≡ true
    → TakesAtMost (max_script_length + 1) left left' → ReadsScript asked left left' faults faults'
reads-source asked left left' faults faults' is taken = record {
  most = taken;
  unasked = λ none. absurd (true≢false (sym is ∙ none));
}
