use Rattle.std.proofs.Common.{◌∙◌, ap, sym, refl, arith, length, map, take}
use Rattle.std.specs.List.{range_with_len, zip}
use Rattle.col_writer_columns.specs.Sorting.{first_key}
use Rattle.col_writer_columns.proofs.FirstLemmas.{firsts-more, take-more, above-more, all-taken, doc-below, length-first_keys, are_above}
use Rattle.col_writer_columns.proofs.sort_order.put_firsts.Goals as goal

pub loop-place-init : goal.loop-place-init
loop-place-init g c = record { firsts = c.requires.none; above = refl }

pub put_first-requires : goal.put_first-requires
put_first-requires g c =
    omega (
      arith,
      ap length c.loop-place.invariant.firsts,
      length-first_keys c.args.num_docs
          (take c.loop-place.place (zip c.args.docs.now (g.K.SortKeys.keys c.args.keys.now))),
      doc-below c.args.num_docs c.args.docs.now c.loop-place.place c.get.result c.requires.below c.get.ensures,
    )

pub loop-place-preserved : goal.loop-place-preserved
loop-place-preserved g c =
    let keys = g.K.SortKeys.keys c.args.keys.now in
    let docs = c.args.docs.now in
    let more = take-more docs keys c.loop-place.place c.get.result c.key.result c.requires.many c.get.ensures c.key.ensures.key in
    record {
      firsts =
          firsts-more c.args.num_docs (take c.loop-place.place (zip docs keys)) c.get.result c.key.result _ _
          c.loop-place.invariant.above
          (doc-below c.args.num_docs docs c.loop-place.place c.get.result c.requires.below c.get.ensures)
          c.loop-place.invariant.firsts c.put_first.ensures
          ∙ ap (λ ps. map (first_key ps) (range_with_len 0 c.args.num_docs)) (sym more);
      above =
          ap are_above more ∙ above-more (take c.loop-place.place (zip docs keys)) c.get.result c.key.result
          c.loop-place.invariant.above c.key.ensures.above;
    }

pub returns : goal.returns
returns g c =
    c.loop-place.invariant.firsts
    ∙ ap (λ ps. map (first_key ps) (range_with_len 0 c.args.num_docs)) (all-taken c.args.docs.now
    (g.K.SortKeys.keys c.args.keys.now) c.loop-place.place c.requires.many
    (omega (arith, c.len-place-end.ensures)))
