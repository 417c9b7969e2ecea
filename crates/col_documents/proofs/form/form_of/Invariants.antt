use Rattle.std.proofs.Common.{◌≡◌}
use Rattle.col_documents.proofs.FormLemmas.{form_from}
use Rattle.col_documents.proofs.form.form_of.Given as goal

-- those that were passed don't have the path
abbrev pub invariant-loop-name : goal.invariant-loop-name
invariant-loop-name l = form_from l.forms l.name-index l.path ≡ form_from l.forms 0 l.path
