use Rattle.std.proofs.Common.{ap, ◌∙◌}
use Rattle.col_bits.specs.Packed.{items}
use Rattle.col_compact.proofs.LookupLemmas.{all-coded}
use Rattle.col_compact.proofs.decompressor.CompactSpaceDecompressor.packed_codes.Goals as goal

pub returns-clause-value : goal.returns-clause-value
returns-clause-value c =
    c.new.ensures
    ∙ (λ i. items (c.as_slice.ensures i) (c.bit_unpacker.ensures.value i) 0 (c.num_vals.ensures.value i))
    ∙ ap (λ d. d.codes) c.self.view_is

pub returns-clause-codes : goal.returns-clause-codes
returns-clause-codes c = all-coded c.self.inside.params c.self.inside.data c.args.self.now c.self.view_is c.self.invariant
