use Rattle.std.proofs.Common.{None, inr, refl, sym}
use Rattle.std.specs.List.{list_any}
use Rattle.col_types.specs.Kinds.{kind_of}
use Rattle.col_merge_slot.specs.Segments.{kept_of}
use Rattle.col_merge_slot.specs.Taken.{FitAs}
use Rattle.col_merge_slot.proofs.FitLemmas.{no-fit}
use Rattle.col_merge_slot.proofs.JoinedLemmas.{no-type}
use Rattle.col_merge_slot.proofs.joined_slot.kept_type.Goals as goal

pub returns-in-Some-clause-joined : goal.returns-in-Some-clause-joined
returns-in-Some-clause-joined c = λ category name within. inr (refl, sym (c.in-Some.ensures.shared category name within))

pub returns-in-None-clause-joined : goal.returns-in-None-clause-joined
returns-in-None-clause-joined c = λ category name within.
    no-type c.args.columns.now c.args.kept.now name c.no_type.result c.requires
    (c.in-None.ensures.shared category name within) c.no_type.ensures

pub returns-in-Some-clause-fits : goal.returns-in-Some-clause-fits
returns-in-Some-clause-fits c = c.in-Some.ensures.fits

pub returns-in-None-clause-fits : goal.returns-in-None-clause-fits
returns-in-None-clause-fits c = λ own.
    no-fit (λ t. FitAs (kind_of t) None (kept_of c.args.columns.now c.args.kept.now)) c.no_type.result
    (list_any (λ b. b) c.args.kept.now) c.no_type.ensures
