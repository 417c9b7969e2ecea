use Rattle.std.proofs.Common.{◌∙◌, sym}
use Rattle.std.specs.Cmp.Derive.Mapped.{pointwise-map}
use Rattle.std.specs.Cmp.Lexicographic.{pointwise}
use Rattle.std.specs.Ordering.{on}
use Rattle.col_compact.specs.Mapped.{range_of, same_range}
use Rattle.col_compact.proofs.compact_space.CompactSpacePartialEq.eq.Goals as goal

pub returns : goal.returns
returns c =
    c.eq.ensures
    ∙ (λ i. pointwise (on range_of same_range) (c.as_slice.ensures.value i) (c.as_slice-2.ensures.value i))
    ∙ sym (pointwise-map range_of same_range c.self.inside.ranges_mapping.items c.other.inside.ranges_mapping.items)
    ∙ (λ i. pointwise same_range (c.self.view_is i) (c.other.view_is i))
