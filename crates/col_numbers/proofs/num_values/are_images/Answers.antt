use Rattle.std.proofs.Common.{ap, ◌∙◌, arith}
use Rattle.col_numbers.specs.Readers.{list_of}
use Rattle.col_numbers.proofs.ImageLemmas.{greatest-tells, all-fit}
use Rattle.col_numbers.proofs.num_values.are_images.Goals as goal

pub returns-then-images_reach_down-clause-images : goal.returns-then-images_reach_down-clause-images
returns-then-images_reach_down-clause-images g c =
    let coded = g.T.MonotonicallyMappableToU64 in
    c.is_image.ensures ∙ ap coded.is_code c.max_value-greatest.ensures.value
    ∙ greatest-tells coded.is_code (c.images_reach_down.ensures c.if-images_reach_down.true)
    (list_of c.args.values.now) (omega (arith, c.num_vals.ensures, c.if-num_vals-eq0.false))

pub returns-then-images_reach_down-clause-fit : goal.returns-then-images_reach_down-clause-fit
returns-then-images_reach_down-clause-fit g c =
    all-fit (list_of c.args.values.now) c.max_value-greatest.result c.max_value-greatest.ensures.value
    (omega (arith, c.max_value-greatest.type_inv))

pub returns-clause-fit : goal.returns-clause-fit
returns-clause-fit g c =
    all-fit (list_of c.args.values.now) c.max_value-greatest.result c.max_value-greatest.ensures.value
    (omega (arith, c.max_value-greatest.type_inv))
