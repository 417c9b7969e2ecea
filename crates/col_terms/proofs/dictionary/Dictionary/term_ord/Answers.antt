use Rattle.std.proofs.Common.{Some, ap, sym, ◌∙◌}
use Rattle.col_common.specs.Ascending.{is_ascending}
use Rattle.col_terms.specs.TermTable.{terms_of}
use Rattle.col_terms.specs.Lookups.{ord_of}
use Rattle.col_terms.proofs.TableLemmas.{table_ascending}
use Rattle.col_terms.proofs.SearchLemmas.{ord_of-at, ord_of-gap}
use Rattle.col_terms.proofs.dictionary.Dictionary.term_ord.Goals as goal

pub returns-in-Ok : goal.returns-in-Ok
returns-in-Ok c =
    let up = ap (λ bytes. is_ascending (terms_of bytes)) c.as_slice.ensures
    ∙ table_ascending c.self.inside.bytes c.self.inside.num_terms c.self.invariant in
    ap Some c.from.ensures ∙ sym (ord_of-at (terms_of c.as_slice.result.now) c.args.key.now c.in-Ok.ord up c.in-Ok.ensures.found)
    ∙ ap (λ ts. ord_of ts c.args.key.now) (ap terms_of c.as_slice.ensures ∙ c.self.view_is)

pub returns-in-Err : goal.returns-in-Err
returns-in-Err c =
    sym (ord_of-gap (terms_of c.as_slice.result.now) c.args.key.now c.in-Err.field-0 c.in-Err.ensures.absent)
    ∙ ap (λ ts. ord_of ts c.args.key.now) (ap terms_of c.as_slice.ensures ∙ c.self.view_is)
