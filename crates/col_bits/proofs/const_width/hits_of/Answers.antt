use Rattle.std.proofs.Common.{ℕ, ◌+◌, ◌-◌, ◌%◌, ◌^◌, ap, ◌∙◌, nat_le, map}
use Rattle.std.specs.Simd.Lanes.{mask_l}
use Rattle.col_bits.proofs.GroupLemmas.{one_test_each}
use Rattle.col_bits.proofs.const_width.hits_of.Goals as goal

pub returns : goal.returns
returns c =
    let test = λ (v : ℕ). nat_le v c.args.span in
    let above = λ (v : ℕ). (v + (2 ^ 32 - c.args.low)) % 2 ^ 32 in
    c.at_most.ensures
    ∙ ap (λ vs. mask_l (map test vs)) (c.above.ensures ∙ ap (map above) c.lanes_of.ensures)
    ∙ ap mask_l (one_test_each c.args.low c.args.span c.args.block.now c.requires c.fits-block)
