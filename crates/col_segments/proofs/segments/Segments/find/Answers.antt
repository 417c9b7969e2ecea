use Rattle.std.proofs.Common.{List, ◌∙◌, subst}
use Rattle.col_common.specs.Replacing.{Replaces}
use Rattle.col_questions.specs.Steps.{end_of}
use Rattle.col_types.specs.Kinds.{kind_of}
use Rattle.col_segments.specs.Found.{places_between}
use Rattle.col_segments.specs.Live.{live}
use Rattle.col_segments.specs.Segments.{HeldTable}
use Rattle.col_segments.proofs.segments.Segments.find.Goals as goal

pub returns-clause-found : goal.returns-clause-found
returns-clause-found c =
    let name = c.args.name.now in
    let t = kind_of c.args.column_type in
    let lo = end_of c.args.lo.now in
    let hi = end_of c.args.hi.now in
    subst (λ (hs : List HeldTable). Replaces c.find_places.result c.find_places.new.places.items (places_between name t lo hi (live hs)))
    (c.deref.ensures.value ∙ c.self.view_is) c.find_places.ensures.found
