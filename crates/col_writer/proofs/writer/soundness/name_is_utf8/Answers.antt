use Rattle.std.proofs.Common.{◌≡◌, List, true, subst}
use Rattle.std.specs.Prelude.{ℕ}
use Rattle.std.specs.Str.{is_utf8}
use Rattle.std.proofs.lemmas.Str.{is_utf8-from_IsUtf8}
use Rattle.col_writer.proofs.writer.soundness.name_is_utf8.Goals as goal

pub returns : goal.returns
returns c =
    let P : List ℕ → Type 0 = λ bs. is_utf8 bs ≡ true in
    subst P c.as_str-text.ensures.value (is_utf8-from_IsUtf8 c.as_str-text.result.now c.as_str-text.utf8)
