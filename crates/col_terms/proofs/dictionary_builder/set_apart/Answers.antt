use Rattle.col_terms.proofs.ApartLemmas.{apart-others}
use Rattle.col_terms.proofs.dictionary_builder.set_apart.Goals as goal

pub returns-clause-others : goal.returns-clause-others
returns-clause-others c =
    apart-others c.args.term.now c.in_ok-key.key c.args.id c.args.apart.now c.insert.new.self c.in_ok-insert.ensures.updates
    c.in_ok-key.ensures.items
