use Rattle.std.proofs.Common.{arith}
use Rattle.csv.specs.Records.{fields_of}
use Rattle.col_load_csv.proofs.SightLemmas.{seeing_all, seeing_more, seeing_none}
use Rattle.col_load_csv.proofs.decide.see_fields.Goals as goal

pub loop-place-init : goal.loop-place-init
loop-place-init c = seeing_none (fields_of c.args.row.now) c.args.seen.now

pub loop-place-preserved : goal.loop-place-preserved
loop-place-preserved c =
    seeing_more (fields_of c.args.row.now) c.args.seen.now c.loop-place.seen c.loop-place.place c.sight_of-own.result
    c.with_field.result (omega arith) c.sight_of-own.ensures (rw c.field_at.ensures at c.with_field.ensures) c.loop-place.invariant

pub returns : goal.returns
returns c =
    seeing_all (fields_of c.args.row.now) c.args.seen.now c.loop-place.seen c.loop-place.place (omega arith) c.loop-place.invariant
