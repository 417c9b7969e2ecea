use Rattle.std.proofs.Common.{◌≡◌, ◌++◌, List, ℕ, OnOk, map, ◌∙◌, subst}
use Rattle.col_order.specs.Orders.{address_of}
use Rattle.col_segments.proofs.compacting.push_segment.Goals as goal

pub returns : goal.returns
returns c =
    let was = map address_of c.args.rows.now.items in
    subst (λ (l : List ℕ). OnOk c.push_rows.result (map address_of c.push_rows.new.rows.items
    ≡ was ++ map (λ r. (c.args.segment_ord, r)) l))
    (c.deref.ensures.value ∙ c.in_ok-alive.ensures ∙ c.alive.ensures.rows) c.push_rows.ensures
