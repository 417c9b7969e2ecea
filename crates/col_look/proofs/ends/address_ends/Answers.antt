-- The least and the greatest of the addresses are the ends of their cells.
use Rattle.std.proofs.Common.{◌<◌, Some, length, map, refl, sym, ◌∙◌, ap, ap₂, arith}
use Rattle.col_column.specs.IpValues.{ip_values_of}
use Rattle.col_model.specs.Stats.{least_of, greatest_of}
use Rattle.col_facet.specs.declared.facet_cell.FacetCell.TheVariants as cells
use Rattle.col_look.specs.FacetEnds.{ends_of}
use Rattle.col_look.proofs.ends.address_ends.Goals as goal
use Rattle.col_look.proofs.EndLemmas.{address-ends, no-ends, view-same}

pub returns-in_default : goal.returns-in_default
returns-in_default c =
    no-ends (λ n. cells.Addr n) (ip_values_of c.args.values.now) (ap (λ v. length (ip_values_of v)) c.in_default.is)

pub returns-then-num_vals-eq0 : goal.returns-then-num_vals-eq0
returns-then-num_vals-eq0 c =
    let same = ap ip_values_of c.in-Read.is ∙ view-same _ _ c.in-Read.view.values (λ n. refl) c.parts.ensures in
    no-ends (λ n. cells.Addr n) (ip_values_of c.args.values.now)
    (ap length same ∙ sym c.num_vals.ensures ∙ c.if-num_vals-eq0.true)

pub returns : goal.returns
returns c =
    let seen = view-same _ _ c.in-Read.view.values (λ n. refl) c.parts.ensures in
    let same = ap ip_values_of c.in-Read.is in
    let some : 0 < length c.in-Read.view.values =
    omega (arith, ap length seen, c.num_vals.ensures, c.if-num_vals-eq0.false) in
    ap₂ (λ a b. (Some (cells.Addr a), Some (cells.Addr b)))
    (c.min_value.ensures ∙ ap least_of (sym seen)) (c.max_value.ensures ∙ ap greatest_of (sym seen))
    ∙ address-ends c.in-Read.view.values some
    ∙ ap (λ ns. ends_of (map (λ n. cells.Addr n) ns)) (sym same)
