use Rattle.std.proofs.Common.{◌≡◌, ◌++◌, List, drop}
use Rattle.col_text.specs.Texts.{Texts}
use Rattle.col_sort.specs.Texts.{AreTexts}
use Rattle.col_sort.proofs.segment_texts.segment_texts.Given as goal

abbrev pub invariant-loop-segment : goal.invariant-loop-segment
invariant-loop-segment l =
    record {
      left : drop l.segment l.columns ≡ drop l.segment l.fn.columns;
      more : (later : List Texts) → AreTexts (drop l.segment l.counts) (drop l.segment l.fn.columns) later
          → AreTexts l.counts l.fn.columns (l.texts.items ++ later);
    }
