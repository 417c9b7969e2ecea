use Rattle.std.proofs.Common.{◌≡◌, ◌+◌, ◌-◌, ◌∙◌, ap, sym, get_or, arith}
use Rattle.std.specs.Int.{is_in_range}
use Rattle.std.proofs.lemmas.Grind.{common_steps}
use Rattle.col_common.proofs.KeptLemmas.{kept_within}
use Rattle.col_codecs.proofs.BoundedItemLemmas.{ids_by-none, ids_by-more}
use Rattle.col_codecs.proofs.bounded_items.push_within.Goals as goal

pub loop-at-preserved : goal.loop-at-preserved
loop-at-preserved c =
    let a = c.args in
    let l = c.loop-at in
    let b = c.is_within.result in
    let place : l.at ≡ a.start + l.at - a.start = omega arith in
    record {
      found =
          ids_by-more (λ id. get_or a.vals.now (id - a.start) 0) a.low a.high a.start l.at (l.at + 1)
          (a.start + l.at) l.found l.block b (omega arith) (omega arith)
          (c.is_within.ensures ∙ ap (λ k. is_in_range a.low a.high (get_or a.vals.now k 0)) place) (omega arith) l.invariant.found;
      below = kept_within l.found l.at b l.invariant.below;
      room = grind (arith, common_steps);
    }

pub loop-at-init : goal.loop-at-init
loop-at-init c =
    let a = c.args in
    record {
      found = sym (ids_by-none (λ id. get_or a.vals.now (id - a.start) 0) a.low a.high a.start 0 (omega arith));
      below = omega arith;
      room = grind (arith, common_steps);
    }
