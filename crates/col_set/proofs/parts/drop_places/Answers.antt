use Rattle.std.proofs.Common.{◌≡◌, ℕ, List, Some, Ok, refl, ap, ◌∙◌, true}
use Rattle.col_model.specs.Refusal.{or_refuse, invalid_data}
use Rattle.col_segments.specs.RowIds.{row_ids}
use Rattle.col_segments.specs.Segments.{HeldTable, alive_count, are_places, dropped, spelled_dropped, without}
use Rattle.col_segments.proofs.AddLemmas.{dropped-ok, spelled}
use Rattle.col_set.proofs.SetLemmas.{parts-err, parts-ok, parts-refused}
use Rattle.col_set.proofs.parts.drop_places.Goals as goal

-- bytes that spell places drop their rows
drops : (bytes shown ids : List ℕ) (hs : List HeldTable) → shown ≡ bytes → row_ids bytes ≡ Some ids
    → are_places 0 (alive_count hs) ids ≡ true → spelled_dropped shown hs ≡ Ok (without ids 0 hs)
drops bytes shown ids hs same spells passes =
    spelled shown hs ids (ap (λ o. or_refuse o invalid_data) (ap row_ids same ∙ spells)) ∙ dropped-ok ids hs passes

pub returns-in-Err : goal.returns-in-Err
returns-in-Err g c =
    let old = c.args.journal.now in
    let hs = c.args.segments.now in
    parts-refused g.D.Disk.seen old.disk old.gate hs hs c.args.failed.now c.in-Err.error (dropped c.args.ids.now hs)
    (g.met.D.Disk.laws old.disk).only_now c.requires.works c.requires.stands refl c.in-Err.ensures.err

pub returns-in-Ok-add_change : goal.returns-in-Ok-add_change
returns-in-Ok-add_change g c =
    let old = c.args.journal.now in
    let hs = c.args.segments.now in
    let ids = c.args.ids.now in
    let new = c.add_change.new.journal in
    let passes = c.in-Ok.ensures.places in
    parts-ok g.D.Disk.seen old.disk new.disk new.gate hs (without ids 0 hs) c.drop_rows.new.self
    c.add_change.new.failed (dropped ids hs) (dropped-ok ids hs passes) c.drop_rows.ensures
    (c.in-Ok-add_change.ensures hs (without ids 0 hs) (c.requires.stands c.requires.works)
    (drops c.in-Ok.bytes.items c.deref.result.now ids hs c.deref.ensures.value c.in-Ok.ensures.spelled passes))

pub returns : goal.returns
returns g c =
    let old = c.args.journal.now in
    let hs = c.args.segments.now in
    let ids = c.args.ids.now in
    let new = c.add_change.new.journal in
    let passes = c.in-Ok.ensures.places in
    parts-err g.D.Disk.seen old.disk new.disk new.gate hs (without ids 0 hs) hs c.add_change.new.failed
    (dropped ids hs) (dropped-ok ids hs passes) c.in-Err-add_change.error refl
    (c.in-Err-add_change.ensures hs (without ids 0 hs) (c.requires.stands c.requires.works)
    (drops c.in-Ok.bytes.items c.deref.result.now ids hs c.deref.ensures.value c.in-Ok.ensures.spelled passes))
