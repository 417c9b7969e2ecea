use Rattle.std.proofs.Common.{◌≡◌, List, [], ℕ, Ok, sym, ◌∙◌, subst}
use Rattle.col_segments.specs.Compaction.{CompactsTo}
use Rattle.col_segments.specs.Files.{IsTableFile}
use Rattle.col_segments.specs.Segments.{HeldTable, appended}
use Rattle.col_segments.proofs.MergeLemmas.{compact-made, stands-whole}
use Rattle.col_segments.proofs.segments.Segments.compacted.Goals as goal

pub one_segment-requires : goal.one_segment-requires
one_segment-requires c =
    let made = c.in_ok-file.ensures.made.ok in
    subst IsTableFile (sym c.in_ok-clone.ensures.cases) (stands-whole made.0 c.in_ok-file.file made.2)

pub returns-clause-ok : goal.returns-clause-ok
returns-clause-ok c =
    let file = c.in_ok-file.file in
    let made = c.in_ok-segments.segments in
    let again = subst (λ (b : List ℕ). appended b [] ≡ Ok made) c.in_ok-clone.ensures.cases c.in_ok-segments.ensures.ok in
    subst (λ (hs : List HeldTable). CompactsTo hs made file) (c.deref.ensures.value ∙ c.self.view_is)
    (compact-made c.deref.result.now made file c.in_ok-file.ensures.made.ok again)
