use Rattle.std.proofs.Common.{◌≡◌, ◌++◌, Some, refl, slice_get, length, map, take, add-one, ap, subst, sym, ◌∙◌, arith}
use Rattle.std.specs.List.Sorted.{IsPermutation}
use Rattle.std.proofs.lemmas.List.{take_all}
use Rattle.std.proofs.lemmas.Option.{slice_get_read}
use Rattle.col_merge_plan.specs.Placed.{placed_from}
use Rattle.col_merge_plan.specs.Slots.{file_slots, keys_read}
use Rattle.col_merge_plan.proofs.SegmentLemmas.{placed-more}
use Rattle.col_merge_plan.proofs.segments.placed_slots.Goals as goal

pub loop-segment-preserved : goal.loop-segment-preserved
loop-segment-preserved g c =
    let rs = c.args.columnar_readers.now in
    let i = c.loop-segment.segment in
    let reader = c.index-columnar_readers-segment.result in
    let is : slice_get rs i ≡ Some reader =
    slice_get_read rs (length rs) i reader refl (omega (arith, c.loop-segment-test.true)) c.index-columnar_readers-segment.is in
    c.in_ok-place_columns.ensures
    ∙ ap (λ ps. ps ++ map (λ s. (s, i)) (file_slots reader.keys)) c.loop-segment.invariant
    ∙ sym (placed-more 0 i i rs reader (omega arith) is)
    ∙ ap (λ n. placed_from 0 (keys_read (take n rs))) (sym (add-one i))

pub returns : goal.returns
returns g c =
    let rs = c.args.columnar_readers.now in
    let all = take_all c.loop-segment.segment rs (omega (arith, c.loop-segment-test.false)) in
    record {
      same =
          subst (λ ps. IsPermutation ps c.sort_unstable.new.self.items)
          (c.loop-segment.invariant ∙ ap (λ rs. placed_from 0 (keys_read rs)) all) c.sort_unstable.ensures.permutation;
      sorted = c.sort_unstable.ensures.sorted;
    }
