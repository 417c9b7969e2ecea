use Rattle.std.proofs.Common.{◌≡◌, ◌++◌, ℕ, Bool, List, sym, ap, ◌∙◌, subst, OnOk}
use Rattle.col_dynamic.specs.Dynamic.{type_of, content_of}
use Rattle.col_model.specs.Lookup.{row_of}
use Rattle.col_query.specs.Sets.{docs_where}
use Rattle.col_places.specs.Places.{AliveRows, are_places, is_listed, places_of}
use Rattle.col_places.specs.Ranges.{is_row_between}
use Rattle.col_questions.specs.Steps.{end_of}
use Rattle.col_places.proofs.ClearLemmas.{clear-rise}
use Rattle.col_places.proofs.ListedLemmas.{where-places, places-where}
use Rattle.col_places.proofs.places.push_places.Goals as goal

pub push_alive-requires-clause-rows : goal.push_alive-requires-clause-rows
push_alive-requires-clause-rows c =
    let column = c.args.column.now in
    let test : ℕ → Bool =
    λ r. is_row_between (type_of column) (end_of c.args.lo.now) (end_of c.args.hi.now) (row_of (content_of column) r) in
    let n = c.args.alive.now.count in
    let count = ap (λ (a : AliveRows). a.count) c.alive.view_is in
    ap (are_places 0 n) (c.deref.ensures.value ∙ c.in_ok-put_rows.ensures ∙ ap (docs_where test) count) ∙ where-places test n

pub returns : goal.returns
returns c =
    let column = c.args.column.now in
    let test : ℕ → Bool =
    λ r. is_row_between (type_of column) (end_of c.args.lo.now) (end_of c.args.hi.now) (row_of (content_of column) r) in
    let alive = c.args.alive.now.rows in
    let n = c.alive.inside.num_rows in
    let own = sym (ap (λ (a : AliveRows). a.rows) c.alive.view_is) in
    let rise = ap (are_places 0 n) own ∙ clear-rise c.alive.inside.dropped.items n in
    let is =
    ap (λ rows. places_of c.args.first (is_listed rows) alive) (c.deref.ensures.value ∙ c.in_ok-put_rows.ensures)
    ∙ places-where test c.args.first n alive rise in
    subst (λ (ps : List ℕ). OnOk c.push_alive.result (c.push_alive.new.places.items ≡ c.args.places.now.items ++ ps)) is
    c.push_alive.ensures
