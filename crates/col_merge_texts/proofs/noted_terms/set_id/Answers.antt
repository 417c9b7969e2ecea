use Rattle.std.proofs.Common.{Some}
use Rattle.col_merge_texts.proofs.SetLemmas.{sets-held, row-below}
use Rattle.col_merge_texts.proofs.noted_terms.set_id.Goals as goal

pub returns : goal.returns
returns c =
    sets-held c.args.ids.now c.args.segment c.args.ord (Some c.args.id) c.index-ids-segment.result c.requires
    (row-below c.args.ids.now c.args.segment c.args.ord c.requires)
