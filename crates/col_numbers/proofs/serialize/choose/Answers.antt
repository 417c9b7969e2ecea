use Rattle.std.proofs.Common.{refl, map, take, subst, ◌∙◌}
use Rattle.col_model.specs.Codecs.{chosen_codec}
use Rattle.col_numbers.specs.CodecTypes.{code_of}
use Rattle.col_numbers.specs.Written.{HasBest}
use Rattle.col_numbers.proofs.ChoiceLemmas.{codes-more}
use Rattle.col_numbers.proofs.serialize.choose.Goals as goal

pub loop-codec-init : goal.loop-codec-init
unfolding chosen_codec
loop-codec-init g c = refl

pub loop-codec-preserved : goal.loop-codec-preserved
loop-codec-preserved g c =
    let xs = g.I.Iterable.items c.args.vals.now in
    let seen = map code_of (take c.loop-codec.codec-index c.args.codec_types.now) in
    let step = c.better-best.ensures xs seen c.loop-codec.invariant c.collect_all.ensures.all
    (c.estimate-num_bytes.ensures xs c.collect_all.ensures.all c.requires.stats) in
    let code = c.collect_all.ensures.code ∙ c.in_ok-estimator.ensures.code in
    subst (λ ks. HasBest xs ks c.better-best.result) (codes-more _ _ _ _ c.loop-codec-test.true code) step
