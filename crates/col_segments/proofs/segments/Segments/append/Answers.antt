use Rattle.std.proofs.Common.{◌≡◌, List, Ok, subst}
use Rattle.col_segments.specs.Segments.{HeldTable, added_file}
use Rattle.col_segments.proofs.AddLemmas.{added-few}
use Rattle.col_segments.proofs.segments.Segments.append.Goals as goal

pub push_opened-requires-clause-few : goal.push_opened-requires-clause-few
push_opened-requires-clause-few c =
    let segment = c.in_ok-opened.opened.segment in
    added-few c.args.file c.self.inside.held.items segment
    (subst (λ (hs : List HeldTable). added_file c.args.file hs ≡ Ok segment) c.deref.ensures.value c.in_ok-opened.ensures.segment.ok)
