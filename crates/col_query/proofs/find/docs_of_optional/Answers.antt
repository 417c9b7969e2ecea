use Rattle.std.proofs.Common.{ℕ, ◌==◌, Bool, not, get_or, sym, ap, ◌∙◌}
use Rattle.col_index.proofs.CountLaws.{length-set_counts, set_counts-rows}
use Rattle.col_model.specs.Index.{set_counts}
use Rattle.col_query.specs.Sets.{docs_where}
use Rattle.col_query.proofs.find.docs_of_optional.Goals as goal

pub returns : goal.returns
returns c =
    λ rows.
    let set = c.args.index.now in
    let test : ℕ → Bool = λ d. not (get_or (set_counts set) d 0 == 0) in
    c.from_list.ensures test (c.in_ok-docs.ensures ∙ c.iter_non_null_docs.ensures ∙ sym (set_counts-rows set c.rows_rise.ensures)
    ∙ ap (docs_where test) (length-set_counts set ∙ rows))
