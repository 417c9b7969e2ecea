use Rattle.std.proofs.Common.{[], refl}
use Rattle.col_types.specs.Kinds.{kind_of}
use Rattle.col_print.proofs.PutsLemmas.{puts_as, puts_then}
use Rattle.col_report.proofs.FoundLemmas.{name-spelled}
use Rattle.col_report.proofs.names.put_name.Goals as goal

pub returns : goal.returns
returns g c =
    puts_as _ _ _ _ (name-spelled [] _ _ _ _ c.args.name.now _ (kind_of c.args.column_type) c.word.ensures refl refl refl refl)
    (puts_then _ _ _ _ _ (puts_then _ _ _ _ _
    (puts_then _ _ _ _ _ c.put_quoted.ensures c.put.ensures) c.put_quoted-2.ensures) c.put-2.ensures)
