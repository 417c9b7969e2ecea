use Rattle.std.proofs.Common.{◌≡◌, ◌∙◌, ◌+◌, ◌*◌, ◌%◌, ◌^◌, ◌<◌, ◌≤◌, ◌++◌, ℕ, List, length, ap, arith, bit_or}
use Rattle.std.specs.Int.{to_le_bytes, w64}
use Rattle.col_bits.specs.Packed.{number_of}
use Rattle.col_bits.specs.Packing.{Held, bits_of, count_of}
use Rattle.col_bits.proofs.WriteLemmas.{held_fits, bits_fit, bits_spill, rest_fits, word_bytes}
use Rattle.col_bits.proofs.PackingLemmas.{AddsBytes-nil}
use Rattle.col_bits.proofs.bitpacker.BitPacker.write.Goals as goal

pub invariant_of-self : goal.invariant_of-self
invariant_of-self c =
    let s = c.self.inside in
    rw c.from.ensures
    (let room : s.mini_buffer_written + c.args.num_bits < 64 = rw c.from.ensures at c.if-written-lt-WORD_BITS.true in
    (room, held_fits s.mini_buffer s.mini_buffer_written c.args.val c.args.num_bits c.self.invariant.1 c.requires.small room))

pub returns-then-written-lt-WORD_BITS-clause-bits : goal.returns-then-written-lt-WORD_BITS-clause-bits
returns-then-written-lt-WORD_BITS-clause-bits c =
    let s = c.self.inside in
    let out = c.args.output.now.items in
    let room : s.mini_buffer_written + c.args.num_bits < 64 = rw c.from.ensures at c.if-written-lt-WORD_BITS.true in
    bits_fit s.mini_buffer s.mini_buffer_written c.args.val c.args.num_bits out c.self.invariant.1 c.requires.small room
    ∙ ap (λ (held : Held). bits_of held out + c.args.val * 2 ^ count_of held out) c.self.view_is

pub invariant_of-self-2 : goal.invariant_of-self-2
invariant_of-self-2 c =
    let s = c.self.inside in
    rw (c.from.ensures, c.above-self-inside.ensures)
    (let over : 64 ≤ s.mini_buffer_written + c.args.num_bits = rw c.from.ensures at c.if-written-lt-WORD_BITS.false in
    (omega arith, rest_fits s.mini_buffer_written c.args.val c.args.num_bits c.requires.small c.self.invariant.0 over))

pub returns-clause-bits : goal.returns-clause-bits
returns-clause-bits c =
    let s = c.self.inside in
    let out = c.args.output.now.items in
    let word : ℕ = bit_or s.mini_buffer (c.args.val * 2 ^ s.mini_buffer_written % 2 ^ 64) in
    let new : c.extend_from_slice.new.self.items ≡ out ++ to_le_bytes w64 word =
    c.in_ok-extend_from_slice.ensures.items ∙ ap (λ bs. out ++ bs) c.to_le_bytes.ensures in
    ap (λ (bytes : List ℕ). number_of 256 bytes + c.above-self-inside.result * 2 ^ (8 * length bytes)) new
    ∙ (ap (λ n. number_of 256 (out ++ to_le_bytes w64 word) + n * 2 ^ (8 * length (out ++ to_le_bytes w64 word)))
    c.above-self-inside.ensures
    ∙ (bits_spill s.mini_buffer s.mini_buffer_written c.args.val out c.self.invariant.1 c.self.invariant.0
    ∙ ap (λ (held : Held). bits_of held out + c.args.val * 2 ^ count_of held out) c.self.view_is))

pub returns-then-written-lt-WORD_BITS-clause-bytes : goal.returns-then-written-lt-WORD_BITS-clause-bytes
returns-then-written-lt-WORD_BITS-clause-bytes c = AddsBytes-nil c.args.output.now.items

pub returns-clause-bytes : goal.returns-clause-bytes
returns-clause-bytes c =
    let s = c.self.inside in
    let word : ℕ = bit_or s.mini_buffer (c.args.val * 2 ^ s.mini_buffer_written % 2 ^ 64) in
    record {
      added = to_le_bytes w64 word;
      bytes = word_bytes word;
      front = c.in_ok-extend_from_slice.ensures.items ∙ ap (λ bs. c.args.output.now.items ++ bs) c.to_le_bytes.ensures;
    }
