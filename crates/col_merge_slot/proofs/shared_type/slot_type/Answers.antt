use Rattle.std.proofs.Common.{◌∙◌, sym, arith}
use Rattle.col_types.specs.Kinds.{kind_of}
use Rattle.col_merge_slot.specs.Segments.{where_set, kept_of}
use Rattle.col_merge_slot.proofs.FitLemmas.{only-fit, seen-fit}
use Rattle.col_merge_slot.proofs.SlotTypeLemmas.{only-shared, seen-shared}
use Rattle.col_merge_slot.proofs.shared_type.slot_type.Goals as goal

pub returns-then-not-is_numerical-clause-shared : goal.returns-then-not-is_numerical-clause-shared
returns-then-not-is_numerical-clause-shared c category name all =
    sym (only-shared category name (kept_of c.args.columns.now c.args.kept.now) (kind_of c.in_ok-first.first) all
    (sym c.in_ok-first.ensures) (grind (arith, c.is_numerical.ensures, c.if-not-is_numerical.true)))

pub returns-clause-shared : goal.returns-clause-shared
returns-clause-shared c category name all =
    c.numerical_type.ensures
    ∙ sym (seen-shared category name (where_set c.args.columns.now c.args.kept.now) (kind_of c.in_ok-first.first)
    c.numbers_seen.result all (sym c.in_ok-first.ensures)
    (grind (arith, c.is_numerical.ensures, c.if-not-is_numerical.false)) c.numbers_seen.ensures)

pub returns-then-not-is_numerical-clause-fits : goal.returns-then-not-is_numerical-clause-fits
returns-then-not-is_numerical-clause-fits c = λ own.
    only-fit (kept_of c.args.columns.now c.args.kept.now) (kind_of c.in_ok-first.first) (sym c.in_ok-first.ensures)
    (grind (arith, c.is_numerical.ensures, c.if-not-is_numerical.true)) own

pub returns-clause-fits : goal.returns-clause-fits
returns-clause-fits c = λ own.
    seen-fit (where_set c.args.columns.now c.args.kept.now) (kind_of c.in_ok-first.first) c.numbers_seen.result
    c.numerical_type.result (sym c.in_ok-first.ensures) (grind (arith, c.is_numerical.ensures, c.if-not-is_numerical.false))
    c.numbers_seen.ensures c.numerical_type.ensures own
