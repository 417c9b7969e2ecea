use Rattle.std.proofs.Common.{◌≡◌, ◌==◌, ◌&&◌, sym, ◌∙◌, ap, subst}
use Rattle.col_model.specs.Stats.{least_of, greatest_of}
use Rattle.col_model.specs.AddressList.{code_count}
use Rattle.col_compact.proofs.CodedLemmas.{are_all_codes, ends_told}
use Rattle.col_compact.proofs.compact_space.CompactSpace.has_ends.Goals as goal

pub returns : goal.returns
returns c = λ codes some low high.
    let last = c.from-last.ensures ∙ c.amplitude_compact_space.ensures in
    c.is_same_pair.ensures
    ∙ ap (λ n. (n == 1) && (c.args.greatest == c.from-last.result)) low
    ∙ ap (λ n. (least_of codes == 1) && (n == c.from-last.result)) high
    ∙ ap (λ n. (least_of codes == 1) && (greatest_of codes == n)) last
    ∙ subst (λ rs. ((least_of codes == 1) && (greatest_of codes == code_count rs)) ≡ are_all_codes rs codes) c.self.view_is
    (sym (ends_told c.self.inside.ranges_mapping.items c.self.invariant codes some))
