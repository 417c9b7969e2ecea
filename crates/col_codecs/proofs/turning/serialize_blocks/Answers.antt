use Rattle.std.proofs.Common.{◌≡◌, min, Ok, Err, List, ℕ, length, refl, sym, subst, arith}
use Rattle.std.proofs.lemmas.Result.{err_from_is_err_and}
use Rattle.col_common.specs.Serializing.{Serializes}
use Rattle.col_codecs.specs.Turning.{packed_by_position, ArePackable}
use Rattle.col_codecs.proofs.TurningLemmas.{written-none, block-packable, written-more, written-stopped, written-all}
use Rattle.col_codecs.proofs.turning.serialize_blocks.Goals as goal

pub values-init : goal.values-init
values-init g c = record {
  stands = c.walk-at.ensures.stands;
  written = written-none (g.T.Turn.turned c.args.turn.now) c.args.num_bits (g.I.Iterable.items c.args.vals.now) _ _ c.walk-at.ensures.front;
}

pub serialize_block-requires-clause-packable : goal.serialize_block-requires-clause-packable
serialize_block-requires-clause-packable g c =
    let f = g.T.Turn.turned c.args.turn.now in
    let left = g.I.Iterable.left c.args.vals.now c.values.at in
    subst (ArePackable (g.T.Turn.Takes c.args.turn.now) f c.args.num_bits c.values.start) (sym c.take_block-taken.ensures.taken)
    (block-packable f c.args.num_bits (g.I.Iterable.items c.args.vals.now) c.values.start left _ _
    c.values.invariant.written c.requires.packable.small c.take_block-taken.result
    (omega (arith, c.take_block-taken.ensures.count)) (g.T.Turn.Takes c.args.turn.now) c.requires.packable.taken
    (omega (arith, c.requires.packable.count)))

pub returns-in_err-serialize_block : goal.returns-in_err-serialize_block
returns-in_err-serialize_block g c =
    let f = g.T.Turn.turned c.args.turn.now in
    let left = g.I.Iterable.left c.args.vals.now c.values.at in
    let p = err_from_is_err_and c.from_residual.result c.from_residual.ensures.1 in
    let n : c.take_block-taken.result ≡ min 512 (length left) = omega (arith, c.take_block-taken.ensures.count) in
    let refused = subst (λ (xs : List ℕ). Serializes (g.K.Sink.seen c.values.sink)
    (g.K.Sink.seen c.serialize_block.new.sink) (Err c.in_err-serialize_block.field-0.0)
    (packed_by_position f c.args.num_bits c.values.start xs)) c.take_block-taken.ensures.taken
    c.in_err-serialize_block.ensures in
    rw (p.1, p.2) (written-stopped f c.args.num_bits (g.I.Iterable.items c.args.vals.now) c.values.start left _ _
    c.values.invariant.written c.requires.packable.small c.take_block-taken.result n _ _ refused)

pub returns-then-taken-eq0 : goal.returns-then-taken-eq0
returns-then-taken-eq0 g c =
    let f = g.T.Turn.turned c.args.turn.now in
    written-all f c.args.num_bits (g.I.Iterable.items c.args.vals.now) c.values.start _ _ _
    c.values.invariant.written c.requires.packable.small c.take_block-taken.result
    (omega (arith, c.take_block-taken.ensures.count)) c.if-taken-eq0.true

pub values-preserved : goal.values-preserved
values-preserved g c =
    let f = g.T.Turn.turned c.args.turn.now in
    let left = g.I.Iterable.left c.args.vals.now c.values.at in
    let n : c.take_block-taken.result ≡ min 512 (length left) = omega (arith, c.take_block-taken.ensures.count) in
    let written = subst (λ (xs : List ℕ). Serializes (g.K.Sink.seen c.values.sink)
    (g.K.Sink.seen c.serialize_block.new.sink) (Ok tt) (packed_by_position f c.args.num_bits c.values.start xs))
    c.take_block-taken.ensures.taken c.in_ok-serialize_block.ensures in
    record {
      stands = c.take_block-taken.ensures.stands;
      written =
          written-more f c.args.num_bits (g.I.Iterable.items c.args.vals.now) c.values.start left _ _
          c.values.invariant.written c.requires.packable.small c.take_block-taken.result n _ _ _ (omega arith) refl
          c.take_block-taken.ensures.left written;
    }
