use Rattle.std.proofs.Common.{◌≡◌, List, ℕ, Some, Ok, Err, inr, refl, sym, ap, ◌∙◌, subst}
use Rattle.std.proofs.lemmas.Result.{err_from_is_err_and}
use Rattle.col_model.specs.Keys.{keys}
use Rattle.col_model.specs.Refusal.{invalid_data}
use Rattle.col_segments.specs.Files.{OpensBytes}
use Rattle.col_segments.proofs.FileLemmas.{columns-bad, columns-whole, file-whole, not-opened}
use Rattle.col_segments.proofs.opening.open_segment.Goals as goal

pub returns-in_err-reader-clause-segment : goal.returns-in_err-reader-clause-segment
returns-in_err-reader-clause-segment c =
    let p = err_from_is_err_and c.from_residual-in_err-reader.result c.from_residual-in_err-reader.ensures.1 in
    let opened =
    subst (λ (b : List ℕ). OpensBytes b (Err c.in_err-reader.field-0.0)) c.in_ok-clone.ensures.cases c.in_err-reader.ensures in
    rw (p.1, p.2) record { ok = tt; refused = not-opened c.args.file c.in_err-reader.field-0.0 opened }

pub opened_whole-requires-clause-table : goal.opened_whole-requires-clause-table
opened_whole-requires-clause-table c =
    let told = c.in_ok-reader.ensures.0 ∙ ap Some c.in_ok-clone.ensures.cases in
    let has = subst (λ (b : List ℕ). keys b ≡ Some c.in_ok-reader.reader.keys) c.in_ok-clone.ensures.cases c.in_ok-reader.ensures.1 in
    let flag = rw told at c.in_ok-are_columns.ensures.whole in
    columns-whole c.args.file c.in_ok-reader.reader.keys has (sym flag ∙ c.if-not-branch.false)

pub returns-clause-segment : goal.returns-clause-segment
returns-clause-segment c =
    let told = c.in_ok-reader.ensures.0 ∙ ap Some c.in_ok-clone.ensures.cases in
    let has = subst (λ (b : List ℕ). keys b ≡ Some c.in_ok-reader.reader.keys) c.in_ok-clone.ensures.cases c.in_ok-reader.ensures.1 in
    let flag = rw told at c.in_ok-are_columns.ensures.whole in
    let is = columns-whole c.args.file c.in_ok-reader.reader.keys has (sym flag ∙ c.if-not-branch.false) in
    record { ok = file-whole c.args.file is ∙ ap Ok (sym c.in_ok-opened_whole.ensures.segment); refused = tt }

pub returns-then-not-branch-clause-segment : goal.returns-then-not-branch-clause-segment
returns-then-not-branch-clause-segment c =
    let told = c.in_ok-reader.ensures.0 ∙ ap Some c.in_ok-clone.ensures.cases in
    let has = subst (λ (b : List ℕ). keys b ≡ Some c.in_ok-reader.reader.keys) c.in_ok-clone.ensures.cases c.in_ok-reader.ensures.1 in
    let flag = rw told at c.in_ok-are_columns.ensures.whole in
    let bad = columns-bad c.args.file c.in_ok-reader.reader.keys has (sym flag ∙ c.if-not-branch.true) in
    record { ok = tt; refused = inr (invalid_data, bad, refl) }
