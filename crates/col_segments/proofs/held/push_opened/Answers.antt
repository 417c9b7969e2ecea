use Rattle.std.proofs.Common.{◌++◌, ◌∷◌, [], List, ap, ◌∙◌}
use Rattle.col_segments.specs.Segments.{HeldTable}
use Rattle.col_segments.proofs.OpenLemmas.{open-pushed}
use Rattle.col_segments.proofs.held.push_opened.Goals as goal

pub returns-clause-open_ : goal.returns-clause-open_
returns-clause-open_ c =
    open-pushed c.args.held.now.items c.push_reserved.new.self.items c.args.opened.segment c.args.readers.now.items
    c.push_alive.new.readers.items c.args.opened.reader c.num_alive.result
    (c.push_reserved.ensures.items ∙ ap (λ (hs : List HeldTable). hs ++ c.args.opened.segment ∷ []) c.reserve.ensures.items)
    c.requires.open_ c.requires.few c.requires.reader c.num_alive.ensures c.in_ok-push_alive.ensures.some c.in_ok-push_alive.ensures.none
