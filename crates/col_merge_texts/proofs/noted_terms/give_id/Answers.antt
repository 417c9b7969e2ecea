use Rattle.col_merge_texts.specs.Noting.{noted_by}
use Rattle.col_merge_texts.proofs.NoteLemmas.{notes-new}
use Rattle.col_merge_texts.proofs.noted_terms.give_id.Goals as goal

pub returns-clause-ok : goal.returns-clause-ok
returns-clause-ok c =
    notes-new (noted_by c.args.terms.now c.args.ids.now) (noted_by c.get_or_allocate_id.new.self c.set_id.new.ids)
    (c.args.segment, c.args.ord) c.args.term.now c.in_ok-id.id.0 c.requires c.in_ok-id.ensures.ok
    c.set_id.ensures
