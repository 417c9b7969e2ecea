use Rattle.std.proofs.Common.{◌≡◌, ◌++◌, List, ℕ, OnOk, sym, ap, ◌∙◌, subst}
use Rattle.std.proofs.lemmas.List.{append-nil}
use Rattle.col_dynamic.specs.Dynamic.{type_of, content_of}
use Rattle.col_model.specs.Category.{slot_of}
use Rattle.col_model.specs.Lookup.{row_of}
use Rattle.col_places.specs.Places.{places_of}
use Rattle.col_places.specs.Ranges.{is_row_between}
use Rattle.col_questions.specs.Steps.{end_of}
use Rattle.col_segments.specs.Found.{HasColumn}
use Rattle.col_segments.proofs.FindLemmas.{found-with, found-without}
use Rattle.col_segments.proofs.finding.push_in.Goals as goal

pub returns-in_default : goal.returns-in_default
returns-in_default c = λ name t has.
    let h = c.args.segment.now in
    let old = c.args.places.now.items in
    sym (append-nil old)
    ∙ ap (λ ps. old ++ ps)
    (sym (found-without name t (end_of c.args.lo.now) (end_of c.args.hi.now) h.table c.args.first h.alive
    (subst (HasColumn (slot_of name t) h.table) c.in_default.is has)))

pub returns : goal.returns
returns c = λ name t has.
    let h = c.args.segment.now in
    let lo = end_of c.args.lo.now in
    let hi = end_of c.args.hi.now in
    let column = c.in-Some.column in
    let new = c.push_places.new.places.items in
    let by = found-with name t lo hi h.table c.args.first h.alive column (subst (HasColumn (slot_of name t) h.table) c.in-Some.is has) in
    let asked = ap (places_of c.args.first (λ r. is_row_between (type_of column) lo hi (row_of (content_of column) r))) c.alive.ensures.rows in
    subst (λ (ps : List ℕ). OnOk c.push_places.result (new ≡ c.args.places.now.items ++ ps)) (asked ∙ sym by) c.push_places.ensures
