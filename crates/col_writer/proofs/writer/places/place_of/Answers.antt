use Rattle.std.proofs.Common.{sym, ◌∙◌, subst}
use Rattle.col_writer.specs.Places.{names_of, IsPlaceOf}
use Rattle.col_writer.proofs.writer.places.place_of.Goals as goal

pub returns : goal.returns
returns g c =
    subst (IsPlaceOf (names_of c.args.columns.now) c.args.name.now) (sym (c.copied.ensures ∙ c.get.ensures.value))
    (c.requires.placed c.args.name.now)
