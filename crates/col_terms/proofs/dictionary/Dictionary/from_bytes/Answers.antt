use Rattle.std.proofs.Common.{option_map, length, ap, sym, ◌∙◌}
use Rattle.col_model.specs.Dictionary.{terms}
use Rattle.col_terms.specs.TermTable.{IsTable}
use Rattle.col_terms.proofs.TableLemmas.{table_counted}
use Rattle.col_terms.proofs.dictionary.Dictionary.from_bytes.Goals as goal

opened : (c : goal.In-Some) → IsTable c.args.bytes c.in-Some.num_terms
opened c =
    table_counted c.args.bytes c.in-Some.num_terms
    (sym c.in-Some.is ∙ c.count_terms.ensures ∙ ap (λ bytes. option_map length (terms bytes)) c.as_slice.ensures)

pub invariant_of-result : goal.invariant_of-result
invariant_of-result c = opened c

pub returns-in-Some-clause-ok : goal.returns-in-Some-clause-ok
returns-in-Some-clause-ok c = (opened c).whole
