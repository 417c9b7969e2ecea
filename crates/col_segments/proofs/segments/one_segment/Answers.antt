use Rattle.std.proofs.Common.{◌∷◌, ◌++◌, [], ◌∙◌}
use Rattle.col_segments.proofs.AddLemmas.{appended-alone}
use Rattle.col_segments.proofs.segments.one_segment.Goals as goal

pub returns-clause-ok : goal.returns-clause-ok
returns-clause-ok c =
    let none = c.new-held.ensures.items in
    let is = c.in_ok-opened.ensures.segment in
    let alone = c.in_ok-push_opened.ensures.held ∙ (λ i. none i ++ is i ∷ []) in
    appended-alone c.args.file c.push_opened.new.held.items c.requires alone c.in_ok-push_opened.ensures.open_.few
