-- What segments decide alone, and what a merge may refuse behind them.
use Rattle.std.proofs.Common.{◌≡◌, Result, Ok, Err, IfErr, inl, inr, sym, ap, ◌∙◌}
use Rattle.col_common.specs.declared.error.ColumnarError.{ColumnarError}
use Rattle.col_model.specs.Refusal.{Refusal}
use Rattle.col_model.proofs.ConflictLaws.{same_Err}
use Rattle.col_writer_columns.specs.Answers.{MayRefuse, answer_of}
use Rattle.col_outcome.specs.Making.{IsKnown, IsMergeRefusal, SegmentsDecide}
use Rattle.col_outcome.proofs.MergedFileLemmas.{answer-is}

-- a refusal of a merge is one that the definitions have
known-merge : (e : ColumnarError) → IsMergeRefusal e → IsKnown e
known-merge e (inl memory) = inl memory
known-merge e (inr (inl fault)) = inr (inl fault)
known-merge e (inr (inr refused)) = inr (inr (refused.0, answer-is e refused.0 refused.1))

-- so is what a merge answers
pub merge-known : {B : Type 0} (result : Result B ColumnarError) → IfErr result IsMergeRefusal → IfErr result IsKnown
merge-known (Ok made) known = tt
merge-known (Err e) known = known-merge e known

-- segments that weren't made are refused, or memory is short
pub segments-stopped : {A : Type 0} (B : Type 0) (expected : Result A Refusal) (e : ColumnarError)
    → MayRefuse expected e → SegmentsDecide {A = A} {B = B} expected (Err e)
segments-stopped B (Ok tables) e (inl memory) = inl memory
segments-stopped B (Ok tables) e (inr (r, at, is)) = cc
segments-stopped B (Err r) e (inl memory) = inl memory
segments-stopped {A = A} B (Err r) e (inr (q, at, is)) = inr (is ∙ ap answer_of (sym (same_Err {A = A} r q at)))

-- where they were made, a merge alone refuses
pub segments-merged : {A B : Type 0} (expected : Result A Refusal) (tables : A) (result : Result B ColumnarError)
    → expected ≡ Ok tables → IfErr result IsMergeRefusal → SegmentsDecide expected result
segments-merged (Ok all) tables (Ok made) at known = tt
segments-merged (Ok all) tables (Err e) at known = known
segments-merged (Err r) tables result at known = cc
