use Rattle.std.proofs.Common.{option_map, IfOk, IfSome, sym, subst}
use Rattle.col_types.specs.Kinds.{kind_of}
use Rattle.col_merge_slot.specs.JoinedSlots.{IsKeptType}
use Rattle.col_merge_slot.specs.Segments.{kept_of}
use Rattle.col_merge_slot.specs.Taken.{FitAs}
use Rattle.col_merge_slot.proofs.FitLemmas.{wanted-fit}
use Rattle.col_merge_slot.proofs.joined_slot.joined_type.Goals as goal

pub returns-in-None-clause-joined : goal.returns-in-None-clause-joined
returns-in-None-clause-joined c =
    let kept = kept_of c.args.columns.now c.args.kept.now in
    subst (λ wanted. IsKeptType (option_map kind_of wanted) kept c.kept_type.result) (sym c.in-None.is) c.kept_type.ensures.joined

pub returns-in-Some-clause-fits : goal.returns-in-Some-clause-fits
returns-in-Some-clause-fits c = λ own.
    let kept = kept_of c.args.columns.now c.args.kept.now in
    let t = kind_of c.in-Some.column_type in
    subst (λ wanted. FitAs t (option_map kind_of wanted) kept) (sym c.in-Some.is) (wanted-fit t kept kept)

pub returns-in-None-clause-fits : goal.returns-in-None-clause-fits
returns-in-None-clause-fits c = λ own.
    let kept = kept_of c.args.columns.now c.args.kept.now in
    subst (λ wanted. IfOk c.kept_type.result (λ found. IfSome found (λ t. FitAs (kind_of t) (option_map kind_of wanted) kept)))
    (sym c.in-None.is) (c.kept_type.ensures.fits own)
