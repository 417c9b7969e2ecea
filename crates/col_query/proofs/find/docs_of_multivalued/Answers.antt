use Rattle.std.proofs.Common.{ℕ, ◌==◌, Bool, not, get_or, ap, ◌∙◌}
use Rattle.col_index.specs.MultiValues.{value_counts_of}
use Rattle.col_query.specs.Sets.{docs_where}
use Rattle.col_query.proofs.find.docs_of_multivalued.Goals as goal

pub returns : goal.returns
returns c =
    λ rows.
    let test : ℕ → Bool = λ d. not (get_or (value_counts_of c.args.index.now) d 0 == 0) in
    c.from_list.ensures test (c.in_ok-docs.ensures ∙ c.iter_non_null_docs.ensures ∙ ap (docs_where test) rows)
