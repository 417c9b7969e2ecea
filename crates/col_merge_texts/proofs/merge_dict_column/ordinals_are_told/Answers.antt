use Rattle.std.proofs.Common.{subst, arith}
use Rattle.std.specs.List.{AllByRecursion}
use Rattle.std.proofs.lemmas.List.{take_all}
use Rattle.col_merge_texts.specs.Taking.{AreTold}
use Rattle.col_merge_texts.proofs.TakeLemmas.{all-more}
use Rattle.col_merge_texts.proofs.merge_dict_column.ordinals_are_told.Goals as goal

pub loop-column-preserved : goal.loop-column-preserved
loop-column-preserved c =
    all-more AreTold c.args.bytes_columns.now c.loop-column.column-index c.column-item.result
    c.loop-column-test.true c.column-item.is c.loop-column.invariant
    (record { ordinals = c.ordinals_are_told.ensures.ordinals; counted = c.ordinals_are_told.ensures.counted })

pub returns : goal.returns
returns c =
    subst (AllByRecursion AreTold) (take_all c.loop-column.column-index c.args.bytes_columns.now (omega arith))
    c.loop-column.invariant
