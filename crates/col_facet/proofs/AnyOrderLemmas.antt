-- Totals of two lists, of which one is replaced by its totals.
use Rattle.std.proofs.Common.{◌≡◌, true, false, List, ◌++◌, sym, ◌∙◌, ap, subst, arith}
use Rattle.std.specs.Prelude.{Result, Ok, Err, IfOk, Vec}
use Rattle.std.specs.declared.alloc.Global.{Global}
use Rattle.col_common.specs.declared.error.ColumnarError.{ColumnarError}
use Rattle.col_common.specs.declared.error.ColumnarError.TheVariants as refusals
use Rattle.col_facet.specs.Cells.{cell_cmp, cells_total}
use Rattle.col_facet.specs.Facets.{totals_of, are_ascending, are_counted, RefusesSums}
use Rattle.col_facet.specs.declared.facet_cell.FacetCount.{FacetCount}
use Rattle.col_facet.proofs.OrderLemmas.{cells-apart}
use Rattle.col_facet.proofs.MergeLemmas.{ascending-totals}
use Rattle.col_facet.proofs.AlikeLemmas.{alike-own, alike-joined, alike-totals, totals-alike, counts-joined, uncounted-more}

-- the totals of the left list stand for it
pub left-instead : (left right new : List FacetCount) → new ≡ totals_of left → totals_of (new ++ right) ≡ totals_of (left ++ right)
unfolding totals_of
left-instead left right new e =
    ap (λ xs. totals_of (xs ++ right)) e
    ∙ totals-alike cell_cmp cells_total cells-apart _ (left ++ right)
    (alike-joined cell_cmp _ left right right (alike-totals cell_cmp cells_total cells-apart left) (alike-own cell_cmp right))

-- and so do those of the right list
pub right-instead : (left right new : List FacetCount) → new ≡ totals_of right → totals_of (left ++ new) ≡ totals_of (left ++ right)
unfolding totals_of
right-instead left right new e =
    ap (λ xs. totals_of (left ++ xs)) e
    ∙ totals-alike cell_cmp cells_total cells-apart _ (left ++ right)
    (alike-joined cell_cmp left left _ right (alike-own cell_cmp left) (alike-totals cell_cmp cells_total cells-apart right))

refused-by : (e : ColumnarError) (fs gs : List FacetCount)
    → (are_counted (totals_of fs) ≡ false → are_counted (totals_of gs) ≡ false)
    → RefusesSums e (totals_of fs) → RefusesSums e (totals_of gs)
refused-by refusals.OutOfMemory fs gs more h = h
refused-by refusals.TooLarge fs gs more h = more h
refused-by _ fs gs more h = absurd h

-- what refuses the totals of the left list refuses those of both
pub left-refused : (e : ColumnarError) (left right : List FacetCount)
    → RefusesSums e (totals_of left) → RefusesSums e (totals_of (left ++ right))
unfolding totals_of
left-refused e left right =
    refused-by e left (left ++ right) (uncounted-more cell_cmp cells_total cells-apart left (left ++ right)
    (λ c. let sum = counts-joined cell_cmp left right c in omega arith))

-- and so does what refuses those of the right list
pub right-refused : (e : ColumnarError) (left right : List FacetCount)
    → RefusesSums e (totals_of right) → RefusesSums e (totals_of (left ++ right))
unfolding totals_of
right-refused e left right =
    refused-by e right (left ++ right) (uncounted-more cell_cmp cells_total cells-apart right (left ++ right)
    (λ c. let sum = counts-joined cell_cmp left right c in omega arith))

-- totals that were made ascend
pub made-ascend : (r : Result (Vec FacetCount Global) ColumnarError) (fs : List FacetCount)
    → IfOk r (λ v. v.items ≡ totals_of fs) → IfOk r (λ v. are_ascending v.items ≡ true)
made-ascend (Ok v) fs e = subst (λ xs. are_ascending xs ≡ true) (sym e) (ascending-totals fs)
made-ascend (Err x) fs h = h
