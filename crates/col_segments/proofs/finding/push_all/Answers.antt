use Rattle.std.proofs.Common.{sym, subst}
use Rattle.col_merge.specs.Opened.{AllOpenedAs}
use Rattle.col_merge.specs.Readings.{slot_reads}
use Rattle.col_model.specs.Category.{Slot, slot_of}
use Rattle.col_types.specs.Kinds.{kind_of}
use Rattle.col_segments.proofs.FindLemmas.{all-fit, columns-opened}
use Rattle.col_segments.proofs.MergeLemmas.{all-read}
use Rattle.col_segments.proofs.ReaderLemmas.{kept_tables}
use Rattle.col_segments.proofs.finding.push_all.Goals as goal

pub push_found-requires-clause-few : goal.push_found-requires-clause-few
push_found-requires-clause-few c = c.requires.few

pub push_found-requires-clause-fits : goal.push_found-requires-clause-fits
push_found-requires-clause-fits c =
    let hs = c.args.held.now in
    let rs = c.args.readers.now in
    let columns = c.deref.result.now in
    let slot = slot_of c.args.name.now (kind_of c.args.column_type) in
    let opened = subst (AllOpenedAs c.in_ok-slot.slot rs) (sym c.deref.ensures.value) c.in_ok-columns.ensures.ok in
    let asked = subst (λ (s : Slot). AllOpenedAs s rs columns) c.in_ok-slot.ensures opened in
    all-fit c.args.name.now (kind_of c.args.column_type) hs columns c.tables_are_sound.ensures
    (columns-opened slot (kept_tables hs) rs columns c.requires.open_ asked)

pub returns-in_err-columns-clause-open_ : goal.returns-in_err-columns-clause-open_
returns-in_err-columns-clause-open_ c =
    all-read (slot_reads c.in_ok-slot.slot) c.args.held.now c.args.readers.now c.open_slot.new.readers c.requires
    c.in_err-columns.ensures.kept

pub returns-clause-found : goal.returns-clause-found
returns-clause-found c =
    let hs = c.args.held.now in
    let rs = c.args.readers.now in
    let columns = c.deref.result.now in
    let slot = slot_of c.args.name.now (kind_of c.args.column_type) in
    let opened = subst (AllOpenedAs c.in_ok-slot.slot rs) (sym c.deref.ensures.value) c.in_ok-columns.ensures.ok in
    let asked = subst (λ (s : Slot). AllOpenedAs s rs columns) c.in_ok-slot.ensures opened in
    c.push_found.ensures c.args.name.now (kind_of c.args.column_type)
    (columns-opened slot (kept_tables hs) rs columns c.requires.open_ asked)

pub returns-clause-open_ : goal.returns-clause-open_
returns-clause-open_ c =
    all-read (slot_reads c.in_ok-slot.slot) c.args.held.now c.args.readers.now c.open_slot.new.readers c.requires
    c.in_ok-columns.ensures.kept
