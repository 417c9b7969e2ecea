use Rattle.std.proofs.Common.{◌≡◌, ◌%◌, ◌-ℤ◌, pos, codes, ap, ◌∙◌, arith, w64, to_z, of_z}
use Rattle.std.proofs.lemmas.Int.{ints}
use Rattle.serde_json.specs.Data.{number}
use Rattle.serde_json.specs.Find.{of_integer}
use Rattle.col_gen.proofs.AddedLemmas.{value-printed}
use Rattle.col_gen.proofs.lines.push_delta.Goals as goal

pub returns : goal.returns
returns c =
    let delta : to_z w64 (of_z w64 c.delta_of.result) ≡ pos (c.args.drawn % 201) -ℤ pos 100 = omega (arith, ints, c.delta_of.ensures) in
    value-printed c.push_value.result _ _ (codes "i64") c.args.document (codes "delta") _ _
    (c.from.ensures ∙ ap (λ z. number (of_integer z)) delta) c.push_value.ensures
