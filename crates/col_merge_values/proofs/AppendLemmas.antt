-- A list to which the parts of another one are appended in turn.
use Rattle.std.proofs.Common.{◌≡◌, List, ◌++◌, sym, ap, ◌∙◌}
use Rattle.std.proofs.lemmas.List.{append_assoc}

-- a part was appended, and the rest is left
pub part-appended : {T : Type 0} (vs ws run rest left zs : List T) → ws ≡ vs ++ run → left ≡ run ++ rest → vs ++ left ≡ zs → ws ++ rest ≡ zs
part-appended vs ws run rest left zs pushed split all =
    ap (λ l. l ++ rest) pushed ∙ append_assoc vs run rest ∙ ap (λ l. vs ++ l) (sym split) ∙ all
