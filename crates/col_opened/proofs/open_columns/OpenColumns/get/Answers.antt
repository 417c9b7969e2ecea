use Rattle.std.proofs.Common.{◌∙◌, slice_get, refl, sym, ap}
use Rattle.std.proofs.lemmas.Option.{slice_get_past}
use Rattle.col_model.specs.ColumnType.{type_code}
use Rattle.col_types.specs.Kinds.{kind_of}
use Rattle.col_opened.specs.Opened.{open_in}
use Rattle.col_opened.proofs.PlaceLemmas.{shown-at, place-none, place-past, place-shut, column-past, column-found, column-other}
use Rattle.col_opened.proofs.open_columns.OpenColumns.get.Goals as goal

pub returns-in_default-clause-column : goal.returns-in_default-clause-column
returns-in_default-clause-column g c = λ t are.
    place-none c.args.reader.now.keys t c.args.self.now c.args.name.now (kind_of c.args.column_type) are
    c.in_default.ensures.place

pub returns-in_default-get-clause-column : goal.returns-in_default-get-clause-column
returns-in_default-get-clause-column g c = λ t are.
    let found = c.in_default-get.ensures.lookup in
    place-past c.args.reader.now.keys t c.args.self.now c.args.name.now (kind_of c.args.column_type) are
    c.in-Some.place c.in-Some.ensures.place c.in-Some.ensures.some
    (ap (λ ps. slice_get ps c.in-Some.place) (sym c.deref.ensures.value)
    ∙ slice_get_past c.deref.result.now c.in-Some.place found.3)

pub returns-in_default-found-clause-column : goal.returns-in_default-found-clause-column
returns-in_default-found-clause-column g c = λ t are.
    let found = c.in-Some-get.ensures.lookup in
    place-shut c.args.reader.now.keys t c.args.self.now c.args.name.now (kind_of c.args.column_type) are
    c.in-Some.place c.in-Some.ensures.place c.in-Some.ensures.some
    (shown-at c.deref.result.now c.args.self.now.places.items c.in-Some.place c.in-Some-get.found.now _
    c.deref.ensures.value found.3.0 found.1 c.in_default-found.is)

pub returns-in_default-get-2-clause-column : goal.returns-in_default-get-2-clause-column
returns-in_default-get-2-clause-column g c = λ t are.
    let found = c.in-Some-get.ensures.lookup in
    let past = c.in_default-get-2.ensures.lookup in
    column-past c.args.reader.now.keys t c.args.self.now c.args.name.now (kind_of c.args.column_type) are
    c.in-Some.place c.in-Some.ensures.place c.in-Some.ensures.some c.in-Some-found.at
    (shown-at c.deref.result.now c.args.self.now.places.items c.in-Some.place c.in-Some-get.found.now _
    c.deref.ensures.value found.3.0 found.1 c.in-Some-found.is)
    (ap (λ cs. slice_get cs c.in-Some-found.at) (sym c.deref-2.ensures.value)
    ∙ slice_get_past c.deref-2.result.now c.in-Some-found.at past.3)

pub returns-then-to_code-clause-column : goal.returns-then-to_code-clause-column
returns-then-to_code-clause-column g c = λ t are.
    let found = c.in-Some-get.ensures.lookup in
    let there = c.in-Some-get-2.ensures.lookup in
    column-other c.args.reader.now.keys t c.args.self.now c.args.name.now (kind_of c.args.column_type) are
    c.in-Some.place c.in-Some.ensures.place c.in-Some.ensures.some c.in-Some-found.at
    (shown-at c.deref.result.now c.args.self.now.places.items c.in-Some.place c.in-Some-get.found.now _
    c.deref.ensures.value found.3.0 found.1 c.in-Some-found.is)
    c.in-Some-get-2.open.now (shown-at c.deref-2.result.now (open_in c.args.self.now) c.in-Some-found.at c.in-Some-get-2.open.now _
    c.deref-2.ensures.value there.3.0 there.1 refl)
    (λ e. c.if-to_code.true (c.to_code.ensures ∙ ap type_code c.column_type.ensures ∙ e ∙ sym c.to_code-2.ensures))

pub returns-clause-column : goal.returns-clause-column
returns-clause-column g c = λ t are.
    let found = c.in-Some-get.ensures.lookup in
    let there = c.in-Some-get-2.ensures.lookup in
    column-found c.args.reader.now.keys t c.args.self.now c.args.name.now (kind_of c.args.column_type) are
    c.in-Some.place c.in-Some.ensures.place c.in-Some.ensures.some c.in-Some-found.at
    (shown-at c.deref.result.now c.args.self.now.places.items c.in-Some.place c.in-Some-get.found.now _
    c.deref.ensures.value found.3.0 found.1 c.in-Some-found.is)
    c.in-Some-get-2.open.now (shown-at c.deref-2.result.now (open_in c.args.self.now) c.in-Some-found.at c.in-Some-get-2.open.now _
    c.deref-2.ensures.value there.3.0 there.1 refl)
