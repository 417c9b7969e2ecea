use Rattle.std.proofs.Common.{take}
use Rattle.std.specs.List.{AllByRecursion}
use Rattle.col_sort.specs.Texts.{IsToldText}
use Rattle.col_sort.proofs.segment_texts.texts_are_told.Given as goal

abbrev pub invariant-loop-text : goal.invariant-loop-text
invariant-loop-text l = AllByRecursion IsToldText (take l.text-index l.texts)
