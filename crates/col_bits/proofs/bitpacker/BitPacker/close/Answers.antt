use Rattle.std.proofs.Common.{◌≡◌, ℕ, ◌<◌, ◌∙◌, ◌++◌, ap, take}
use Rattle.std.specs.Int.{to_le_bytes, w64, div_ceil}
use Rattle.col_bits.specs.Packed.{number_of}
use Rattle.col_bits.specs.Packing.{Held, bits_of}
use Rattle.std.proofs.lemmas.List.Elements.{recursion_from_All, All-from_recursion, All-take}
use Rattle.col_bits.proofs.WriteLemmas.{bits_closed, word_bytes}
use Rattle.col_bits.proofs.bitpacker.BitPacker.close.Goals as goal

-- what is written
closed_items : (c : goal.After-self-2-1)
    → c.extend_from_slice.new.self.items
    ≡ c.args.output.now.items
    ++ take (div_ceil c.self.inside.mini_buffer_written 8) (to_le_bytes w64 c.self.inside.mini_buffer)
closed_items c =
    let s = c.self.inside in
    let out = c.args.output.now.items in
    c.in_ok-extend_from_slice.ensures.items
    ∙ (ap (λ n. out ++ take n c.to_le_bytes-bytes.result) c.div_ceil-len.ensures
    ∙ ap (λ bs. out ++ take (div_ceil s.mini_buffer_written 8) bs) c.to_le_bytes-bytes.ensures)

pub returns-clause-bits : goal.returns-clause-bits
returns-clause-bits c =
    let s = c.self.inside in
    let out = c.args.output.now.items in
    let new = closed_items c in
    ap (number_of 256) new
    ∙ (bits_closed s.mini_buffer s.mini_buffer_written out c.self.invariant.1 c.self.invariant.0
    ∙ ap (λ (held : Held). bits_of held out) c.self.view_is)

pub returns-clause-bytes : goal.returns-clause-bytes
returns-clause-bytes c =
    let s = c.self.inside in
    let k = div_ceil s.mini_buffer_written 8 in
    let word = to_le_bytes w64 s.mini_buffer in
    let IsByte : ℕ → Type 0 = λ b. b < 256 in
    record {
      added = take k word;
      bytes = recursion_from_All IsByte (take k word) (All-take IsByte k word (All-from_recursion IsByte word (word_bytes s.mini_buffer)));
      front = closed_items c;
    }
