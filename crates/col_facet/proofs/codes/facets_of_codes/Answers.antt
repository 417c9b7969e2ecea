use Rattle.std.proofs.Common.{◌∙◌, ap}
use Rattle.col_facet.specs.Tables.{address_at, counted_from}
use Rattle.col_facet.proofs.codes.facets_of_codes.Goals as goal
use Rattle.col_facet.proofs.AddressLemmas.{codes-counted}

pub returns : goal.returns
returns c =
    let list = c.args.list.now in
    c.in_ok-counted_facets.ensures ∙ ap (counted_from (address_at list.ranges) 0) c.as_slice.ensures.value
    ∙ codes-counted list.ranges list.codes c.in_ok-counts.counts.items c.max_code-num_codes.result c.numbers_rise.ensures
    c.in_ok-counts.ensures.codes c.in_ok-counts.ensures.len c.max_code-num_codes.ensures c.in_ok-counts.ensures.counts
