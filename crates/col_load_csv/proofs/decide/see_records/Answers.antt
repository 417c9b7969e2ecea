use Rattle.std.proofs.Common.{◌≡◌, ◌+◌, ◌-◌, map, drop, length, replicate, ap, ◌∙◌, arith}
use Rattle.std.proofs.lemmas.List.{take_at}
use Rattle.csv.specs.Records.{fields_of}
use Rattle.col_load_csv.specs.Read.{column_read}
use Rattle.col_load_csv.specs.Readers.{left_of}
use Rattle.col_load_csv.proofs.ReaderLemmas.{found_some}
use Rattle.col_load_csv.proofs.RecordLemmas.{seen_more, seen_none, seen_past}
use Rattle.col_load_csv.proofs.decide.see_records.Goals as goal

pub loop-init : goal.loop-init
loop-init c =
    let count = length c.args.columns.now in
    seen_none (map column_read c.args.columns.now) count c.args.reader.now c.args.most c.in_ok-seen.seen.items c.requires
    (c.in_ok-seen.ensures.items_if_clones_equal (λ y h. h) ∙ ap (replicate count) c.none.ensures)

pub loop-preserved : goal.loop-preserved
loop-preserved c =
    let columns = map column_read c.args.columns.now in
    let more = c.see_record.new.seen in
    let fields = fields_of c.read_next.new.row in
    let back = take_at more (drop (length more) c.loop.seen.items) c.loop.seen.len (c.see_record.auto.seen ∙ c.deref_mut.ensures.len) in
    let next : c.args.most - c.loop.counter ≡ c.args.most - (c.loop.counter + 1) + 1 = omega (arith, c.loop-test.true) in
    rw back (seen_more columns (length c.args.columns.now) (left_of c.args.most c.args.reader.now) c.loop.reader
    (c.args.most - c.loop.counter) c.loop.seen.items c.loop.invariant c.read_next.new.reader (c.args.most - (c.loop.counter + 1)) fields
    more next (found_some c.loop.reader c.read_next.new.reader fields c.in_ok-read_next.field-0
    c.if-not-branch.false c.in_ok-read_next.ensures)
    (rw c.deref_mut.ensures.value at c.in_ok-see_record.ensures))

pub returns-clause-seen : goal.returns-clause-seen
returns-clause-seen c =
    let nothing : c.args.most - c.loop.counter ≡ 0 = omega (arith, c.loop-test.false) in
    seen_past (map column_read c.args.columns.now) (length c.args.columns.now) (left_of c.args.most c.args.reader.now) c.loop.reader
    (c.args.most - c.loop.counter) c.loop.seen.items c.loop.invariant nothing
