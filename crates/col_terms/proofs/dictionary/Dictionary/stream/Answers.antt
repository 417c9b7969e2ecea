use Rattle.std.proofs.Common.{ap, ◌∙◌, slice_range}
use Rattle.col_terms.specs.TermTable.{terms_of}
use Rattle.col_terms.specs.Streams.{stream_of, numbered}
use Rattle.col_terms.proofs.StreamLemmas.{numbered-whole}
use Rattle.col_terms.proofs.dictionary.Dictionary.stream.Goals as goal

pub returns : goal.returns
returns c =
    let s = c.self.inside in
    c.between.ensures
    ∙ ap (λ bytes. stream_of (slice_range (numbered (terms_of bytes)) 0 s.num_terms)) c.as_slice.ensures
    ∙ ap stream_of (numbered-whole (terms_of s.bytes) s.num_terms c.self.invariant.count)
    ∙ ap (λ ts. stream_of (numbered ts)) c.self.view_is
