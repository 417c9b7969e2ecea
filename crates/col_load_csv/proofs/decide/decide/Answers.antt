use Rattle.std.proofs.Common.{map, sym, subst, ◌∙◌}
use Rattle.std.proofs.lemmas.Result.{IfOk-weaker}
use Rattle.col_load_csv.specs.Documents.{taken}
use Rattle.col_load_csv.specs.Read.{column_read}
use Rattle.col_load_csv.specs.Readers.{left_of}
use Rattle.col_load_csv.specs.Sights.{AreSeen}
use Rattle.col_load_csv.proofs.KindLemmas.{columns_decided}
use Rattle.col_load_csv.proofs.decide.decide.Goals as goal

pub returns : goal.returns
returns c =
    let columns = c.args.columns.now in
    let rows = taken (map column_read columns) (left_of c.args.most c.args.reader.now) in
    let seen = subst (AreSeen rows) (sym c.deref.ensures.value) c.in_ok-seen.ensures.seen in
    IfOk-weaker c.decided_columns.result _ _
    (λ kinds is. is rows (c.in_ok-sights.ensures rows seen) ∙ columns_decided columns rows) c.decided_columns.ensures
