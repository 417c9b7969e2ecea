use Rattle.col_merge_terms.proofs.ItemLemmas.{numbers-held, row-below}
use Rattle.col_merge_terms.proofs.term_ord_mapping.number.Goals as goal

pub returns : goal.returns
returns c =
    numbers-held c.args.mapping.now c.args.segment c.args.from c.args.ord c.index-mapping-segment.result c.requires
    (row-below c.args.mapping.now c.args.segment c.args.from c.requires)
