use Rattle.std.proofs.Common.{arith}
use Rattle.col_terms.proofs.TableLemmas.{HasTerm, has_room, has_term}
use Rattle.col_terms.proofs.table.term_in.Goals as goal

pub start_at-start-requires : goal.start_at-start-requires
start_at-start-requires c = omega (arith, has_room c.args.bytes.now c.args.num_terms c.args.ord c.requires.table c.requires.within)

pub start_at-end-requires : goal.start_at-end-requires
start_at-end-requires c = omega (arith, has_room c.args.bytes.now c.args.num_terms c.args.ord c.requires.table c.requires.within)

laid_out : (c : goal.After-start_at-end)
    → HasTerm c.args.bytes.now c.args.num_terms c.args.ord c.start_at-start.result c.start_at-end.result
laid_out c =
    has_term c.args.bytes.now c.args.num_terms c.args.ord c.start_at-start.result c.start_at-end.result
    c.requires.table c.requires.within c.start_at-start.ensures c.start_at-end.ensures

pub slice_bounds-result-count : goal.slice_bounds-result-count
slice_bounds-result-count c = omega (arith, (laid_out c).ordered)

pub slice_bounds-result-start : goal.slice_bounds-result-start
slice_bounds-result-start c = let h = laid_out c in omega (arith, h.ordered, h.within)

pub slice_bounds-result-end : goal.slice_bounds-result-end
slice_bounds-result-end c = let h = laid_out c in omega (arith, h.ordered, h.within)

pub returns : goal.returns
returns c =
    (has_term c.args.bytes.now c.args.num_terms c.args.ord c.start_at-start.result c.start_at-end.result
    c.requires.table c.requires.within c.start_at-start.ensures c.start_at-end.ensures).is
