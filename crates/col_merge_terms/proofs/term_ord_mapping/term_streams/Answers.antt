use Rattle.std.proofs.Common.{[], ◌∷◌, ap, ◌∙◌, arith, length, length-append}
use Rattle.col_terms.specs.Streams.{numbered, stream_of}
use Rattle.col_merge_texts.specs.Items.{terms_of}
use Rattle.col_merge_terms.specs.Numbering.{terms_from}
use Rattle.col_merge_terms.proofs.NumberingLemmas.{streams-step, streams-whole}
use Rattle.col_merge_terms.proofs.term_ord_mapping.term_streams.Goals as goal

pub loop-segment_ord-preserved : goal.loop-segment_ord-preserved
loop-segment_ord-preserved c =
    let columns = c.args.bytes_columns.now in
    let n = c.loop-segment_ord.segment_ord in
    let column = c.index-bytes_columns-segment_ord.result in
    let stream = c.stream.ensures ∙ ap (λ ts. stream_of (numbered ts)) c.dictionary.ensures in
    let pushed = c.in_ok-push.ensures.items in
    record {
      terms =
          streams-step columns c.loop-segment_ord.streams.items c.push.new.self.items n column c.stream.result
          c.loop-segment_ord-test.true c.index-bytes_columns-segment_ord.is stream pushed
          ∙ c.loop-segment_ord.invariant.terms;
      len =
          omega (
            arith,
            ap length pushed,
            length-append c.loop-segment_ord.streams.items (record { terms = c.stream.result; segment_ord = n } ∷ []),
            c.loop-segment_ord.invariant.len,
          );
    }

pub returns-clause-terms : goal.returns-clause-terms
returns-clause-terms c =
    streams-whole c.args.bytes_columns.now c.loop-segment_ord.streams.items c.loop-segment_ord.segment_ord
    (terms_from 0 (terms_of c.args.bytes_columns.now)) c.loop-segment_ord-test.false
    c.loop-segment_ord.invariant.terms
