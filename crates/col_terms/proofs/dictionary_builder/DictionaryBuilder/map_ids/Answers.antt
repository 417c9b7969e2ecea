use Rattle.std.proofs.Common.{length, ap, ◌∙◌, arith}
use Rattle.std.proofs.lemmas.List.{length-set}
use Rattle.col_terms.proofs.TermRefLemmas.{count-ordered, id-read, id-below, placed-more, ordinals-are}
use Rattle.col_terms.proofs.dictionary_builder.DictionaryBuilder.map_ids.Goals as goal

pub overflow_cast-ord : goal.overflow_cast-ord
overflow_cast-ord c =
    let count = count-ordered c.args.self.now c.args.terms.now c.requires in
    let many = ap length c.self.view_is in
    omega (arith, c.self.invariant.few, many, count)

pub index_mut-requires : goal.index_mut-requires
index_mut-requires c =
    let below = id-below c.args.self.now c.args.terms.now c.requires c.loop-ord.ord c.loop-ord-test.true in
    let read = id-read c.args.self.now c.args.terms.now c.requires c.loop-ord.ord c.loop-ord-test.true in
    let count = count-ordered c.args.self.now c.args.terms.now c.requires in
    omega (arith, c.loop-ord.invariant.long)

pub loop-ord-preserved : goal.loop-ord-preserved
loop-ord-preserved c = record {
  long = length-set c.loop-ord.ords.items _ _ ∙ c.loop-ord.invariant.long;
  placed =
      placed-more c.args.self.now c.args.terms.now c.requires c.loop-ord.ords.items c.loop-ord.ord _
      c.loop-ord-test.true c.loop-ord.invariant.long
      (id-read c.args.self.now c.args.terms.now c.requires c.loop-ord.ord c.loop-ord-test.true)
      c.loop-ord.invariant.placed;
}

pub returns : goal.returns
returns c =
    ordinals-are c.args.self.now c.args.terms.now c.requires c.loop-ord.ords.items c.loop-ord.invariant.long
    (λ k h. c.loop-ord.invariant.placed k (omega (arith, c.loop-ord-test.false)))
