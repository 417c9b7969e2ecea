-- The parts of a footer.
use Rattle.std.proofs.Common.{◌≡◌, ℕ, List, ◌++◌, ap, ap₂, ◌∙◌, append_assoc}
use Rattle.std.specs.Int.{w32, w64, to_le_bytes}
use Rattle.col_model.specs.Version.{version_bytes}
use Rattle.col_model.specs.Spelling.{footer_bytes}

-- the table's length, the row count and the version are the footer
pub footer-parts : (table_length row_count : ℕ) (a b c : List ℕ) → a ≡ to_le_bytes w64 table_length
    → b ≡ to_le_bytes w32 row_count → c ≡ version_bytes → (a ++ b) ++ c ≡ footer_bytes table_length row_count
unfolding footer_bytes
footer-parts table_length row_count a b c e f h =
    append_assoc a b c ∙ ap₂ (λ x y. x ++ (y ++ c)) e f
    ∙ ap (λ v. to_le_bytes w64 table_length ++ (to_le_bytes w32 row_count ++ v)) h
