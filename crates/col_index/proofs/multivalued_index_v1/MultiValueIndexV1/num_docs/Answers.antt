use Rattle.std.proofs.Common.{◌-◌, length, sym, ap, ◌∙◌}
use Rattle.col_index.proofs.OldStartLemmas.{length-counts_between}
use Rattle.col_index.proofs.multivalued_index_v1.MultiValueIndexV1.num_docs.Goals as goal

pub returns : goal.returns
returns c =
    ap (λ n. n - 1) (c.num_vals.ensures ∙ ap length c.self.view_is) ∙ sym (length-counts_between c.args.self.now)
