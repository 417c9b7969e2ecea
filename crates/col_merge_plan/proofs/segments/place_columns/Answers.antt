use Rattle.std.proofs.Common.{◌≡◌, ◌∙◌, ◌++◌, ap, map}
use Rattle.col_file.specs.Handles.{listed}
use Rattle.col_merge_plan.specs.Slots.{listed_slot}
use Rattle.col_merge_plan.proofs.ListLemmas.{listed-slots}
use Rattle.col_merge_plan.proofs.segments.place_columns.Goals as goal

pub loop-name-init : goal.loop-name-init
loop-name-init g c =
    let is : c.into_iter-name-iterator.result ≡ map listed c.args.reader.now.keys.entries =
    cc (c.into_iter-name-iterator.ensures.into_iter_gives, c.iter_columns-name-items.ensures) in (
      tt,
      tt,
      ap (λ ss. c.args.placed.now.items ++ map (λ s. (s, c.args.segment)) ss)
          (ap (map listed_slot) is ∙ listed-slots c.args.reader.now.keys.entries),
    )
