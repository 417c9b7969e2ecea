use Rattle.std.proofs.Common.{◌∙◌}
use Rattle.std.proofs.lemmas.List.Sorted.{searched}
use Rattle.col_places.proofs.DropLemmas.{among-searched}
use Rattle.col_places.proofs.dropping.is_listed.Goals as goal

pub returns : goal.returns
returns c =
    let found = searched c.args.ids.now c.args.place c.binary_search.result c.binary_search.ensures.position c.requires in
    c.is_ok.ensures.value ∙ among-searched c.args.ids.now c.args.place c.binary_search.result found
