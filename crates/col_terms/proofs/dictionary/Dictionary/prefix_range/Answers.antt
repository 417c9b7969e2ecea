use Rattle.std.proofs.Common.{ap, ◌∙◌}
use Rattle.col_terms.specs.TermTable.{terms_of}
use Rattle.col_terms.specs.Streams.{stream_of, with_prefix}
use Rattle.col_terms.proofs.PrefixLemmas.{with_prefix-between}
use Rattle.col_terms.proofs.dictionary.Dictionary.prefix_range.Goals as goal

pub returns : goal.returns
returns c =
    c.between.ensures
    ∙ ap stream_of (with_prefix-between (terms_of c.as_slice-bytes.result.now) c.args.prefix.now
    c.first_from-start.result c.prefix_end-end.result c.first_from-start.ensures c.prefix_end-end.ensures)
    ∙ ap (λ bytes. stream_of (with_prefix c.args.prefix.now (terms_of bytes))) c.as_slice-bytes.ensures
    ∙ ap (λ ts. stream_of (with_prefix c.args.prefix.now ts)) c.self.view_is
