use Rattle.std.proofs.Common.{take}
use Rattle.std.specs.List.{AllByRecursion}
use Rattle.col_merge_slot.specs.Texts.{IsCountedText}
use Rattle.col_merge_slot.proofs.texts.texts_are_counted.Given as goal

-- those that were passed are told
abbrev pub invariant-loop-text : goal.invariant-loop-text
invariant-loop-text l = AllByRecursion IsCountedText (take l.text-index l.texts)
