use Rattle.std.proofs.Common.{sym, ◌∙◌}
use Rattle.col_numbers.specs.Readers.{list_of}
use Rattle.col_numbers.proofs.ImageLemmas.{images-seen}
use Rattle.col_numbers.proofs.num_values.see_as.Goals as goal

pub new-requires-2 : goal.new-requires-2
new-requires-2 g c =
    images-seen g.T.MonotonicallyMappableToU64.is_code (list_of c.args.values) c.are_images.ensures.fit
    (sym c.are_images.ensures.images ∙ c.if-not-are_images.false)
