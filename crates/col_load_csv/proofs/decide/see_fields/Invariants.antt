use Rattle.csv.specs.Records.{fields_of}
use Rattle.col_load_csv.proofs.SightLemmas.{AreSeeing}
use Rattle.col_load_csv.proofs.decide.see_fields.Given as goal

-- the fields before the place were seen
abbrev pub invariant-loop-place : goal.invariant-loop-place
invariant-loop-place l = AreSeeing (fields_of l.row) l.initial.seen l.seen l.place
