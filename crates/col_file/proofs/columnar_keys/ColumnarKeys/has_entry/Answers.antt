use Rattle.std.proofs.Common.{length, refl, ap, sym, ◌∙◌}
use Rattle.std.specs.List.{list_any}
use Rattle.std.proofs.lemmas.Option.{slice_get_read}
use Rattle.col_file.specs.Entries.{entry_of}
use Rattle.col_file.specs.Handles.{is_at, is_entry}
use Rattle.col_file.specs.declared.column_entry.ColumnEntry.{ColumnEntry}
use Rattle.col_file.proofs.PlaceLemmas.{any-at, any-seen}
use Rattle.col_file.proofs.columnar_keys.ColumnarKeys.has_entry.Goals as goal

pub returns : goal.returns
returns c =
    let h = c.args.handle.now in
    let test = λ (e : ColumnEntry). is_at h (entry_of e) in
    let es = c.as_slice-columns.result.now in
    let found = c.in-Some.ensures.lookup in
    sym (any-at test es c.place.result c.in-Some.entry.now
    (slice_get_read es (length es) c.place.result c.in-Some.entry.now refl found.3.0 found.1)
    (sym c.is_of.ensures ∙ c.if-is_of.true))
    ∙ ap (list_any test) c.as_slice-columns.ensures.value
    ∙ sym (any-seen h c.self.inside.columns.items)
    ∙ ap (λ k. is_entry k h) c.self.view_is

pub returns-2 : goal.returns-2
returns-2 c =
    let h = c.args.handle.now in
    let test = λ (e : ColumnEntry). is_at h (entry_of e) in
    c.has_place.ensures
    ∙ ap (list_any test) c.as_slice-columns.ensures.value
    ∙ sym (any-seen h c.self.inside.columns.items)
    ∙ ap (λ k. is_entry k h) c.self.view_is
