use Rattle.col_merge_terms.specs.Merging.{places_of}
use Rattle.col_merge_texts.specs.Items.{lists_of}
use Rattle.col_model.proofs.PermutationLaws.{all-moved}
use Rattle.col_merge_terms.proofs.ItemLemmas.{numbers-moved}
use Rattle.col_merge_terms.proofs.term_ord_mapping.number_key.Goals as goal

pub number_places-requires : goal.number_places-requires
number_places-requires c =
    all-moved _ (places_of c.args.merger.now.current) c.matching_segments.result c.matching_segments.ensures.all
    c.requires.within

pub returns : goal.returns
returns c =
    numbers-moved c.matching_segments.result (places_of c.args.merger.now.current) c.args.ord
    (lists_of c.args.mapping.now) (lists_of c.number_places.new.mapping) c.matching_segments.ensures.all
    c.number_places.ensures
