use Rattle.std.proofs.Common.{ℕ, List, length, ap, ◌∙◌, arith}
use Rattle.col_common.specs.Flags.{flags_of, members}
use Rattle.col_query.specs.Sets.{AreBits}
use Rattle.col_query.proofs.SetLemmas.{turned_bits, docs_of_bits}
use Rattle.col_query.proofs.doc_set.list_of_bits.Goals as goal

pub returns : goal.returns
returns c =
    λ p b.
    let n = c.args.num_docs in
    let words = c.turned_words-words.result.items in
    let bits : AreBits n p words = turned_bits n c.args.to_turn p c.args.words.items words c.args.words.len b
    (omega (arith, c.turned_words-words.ensures.len, c.args.words.ok, c.turned_words-words.result.ok))
    (omega (arith, c.args.words.ok)) c.turned_words-words.ensures.bits in
    c.in_ok-docs.ensures (ap length c.deref.ensures.value ∙ bits.room)
    ∙ (ap (λ (ws : List ℕ). members (flags_of ws n)) c.deref.ensures.value ∙ docs_of_bits n p words bits)
