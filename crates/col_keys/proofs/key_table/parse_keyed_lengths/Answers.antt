use Rattle.std.proofs.Common.{◌≡◌, ◌++◌, ◌∷◌, []}
use Rattle.std.proofs.lemmas.Result.{err_from_is_err_and}
use Rattle.std.proofs.lemmas.List.{map_push}
use Rattle.col_common.specs.Reading.{items}
use Rattle.col_model.specs.Keys.{keyed_length}
use Rattle.col_keys.specs.KeyTables.{keyed, all_keyed}
use Rattle.col_keys.proofs.ItemLemmas.{items-goes_on, items-refused, items-done}
use Rattle.col_keys.proofs.key_table.parse_keyed_lengths.Goals as goal

pub returns-in_err-entry : goal.returns-in_err-entry
returns-in_err-entry c =
    let p = err_from_is_err_and c.from_residual.result c.from_residual.ensures.1 in
    rw (p.1, p.2) (items-refused c.in_err-entry.field-0.0 keyed_length (all_keyed c.loop.found.items) c.args.count
    c.loop.counter c.loop.rest.now (items keyed_length c.args.count c.args.bytes.now) c.loop-test.true
    c.loop.invariant c.in_err-entry.ensures)

pub loop-preserved : goal.loop-preserved
loop-preserved c =
    let n = c.in_ok-entry.entry in
    let e : all_keyed c.push.new.self.items ≡ all_keyed c.loop.found.items ++ keyed n ∷ [] =
    rw c.in_ok-push.ensures.items (map_push keyed c.loop.found.items n) in
    rw e (items-goes_on keyed_length (all_keyed c.loop.found.items) c.args.count c.loop.counter c.loop.rest.now
    (keyed n) c.in_ok-entry.after.now (items keyed_length c.args.count c.args.bytes.now) c.loop-test.true
    c.in_ok-entry.ensures c.loop.invariant)

pub returns : goal.returns
returns c =
    items-done keyed_length (all_keyed c.loop.found.items) c.args.count c.loop.counter c.loop.rest.now
    (items keyed_length c.args.count c.args.bytes.now) c.loop-test.false c.loop.invariant
