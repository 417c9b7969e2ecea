use Rattle.std.proofs.Common.{rules, ◌≤◌, ◌+◌, ◌-◌, length, get_or, ◌∙◌, arith}
use Rattle.std.proofs.lemmas.List.{get_or-replicate}
use Rattle.col_numbers.specs.Readers.{list_of}
use Rattle.col_index.proofs.WindowLemmas.{block-behind, marks-ranked, marks-fit}
use Rattle.col_index.proofs.windows.fill_by.Goals as goal

pub mark-requires-clause-clear : goal.mark-requires-clause-clear
mark-requires-clause-clear c = λ i h. get_or-replicate 1024 i 0 0 h

pub mark-requires-clause-behind : goal.mark-requires-clause-behind
mark-requires-clause-behind c =
    block-behind (list_of c.args.starts.now) c.args.block.now c.args.first (c.args.position + 1) c.requires.rising
    c.requires.first c.requires.block c.requires.within

pub overflow_sub-reach-2 : goal.overflow_sub-reach-2
overflow_sub-reach-2 c =
    let above = block-behind (list_of c.args.starts.now) c.args.block.now c.args.first (c.args.position + 1)
    c.requires.rising c.requires.first c.requires.block c.requires.within (length c.args.block.now - 1)
    (omega (arith, c.requires.some)) in
    omega (arith, above)

pub sum_up-requires-clause-fits : goal.sum_up-requires-clause-fits
sum_up-requires-clause-fits c = λ i h.
    let above = block-behind (list_of c.args.starts.now) c.args.block.now c.args.first (c.args.position + 1)
    c.requires.rising c.requires.first c.requires.block c.requires.within (length c.args.block.now - 1)
    (omega (arith, c.requires.some)) in
    let reach : c.args.position + 1 + c.min-len.result ≤ get_or c.args.block.now (length c.args.block.now - 1) 0 + 1
    = omega (arith, above, c.min-len.ensures) in
    let above = block-behind (list_of c.args.starts.now) c.args.block.now c.args.first (c.args.position + 1)
    c.requires.rising c.requires.first c.requires.block c.requires.within (length c.args.block.now - 1)
    (omega (arith, c.requires.some)) in
    let reach : c.args.position + 1 + c.min-len.result ≤ get_or c.args.block.now (length c.args.block.now - 1) 0 + 1
    = omega (arith, above, c.min-len.ensures) in
    let fit = marks-fit (list_of c.args.starts.now) c.args.block.now c.args.first (c.args.position + 1)
    c.requires.rising c.requires.first c.requires.block c.requires.within c.requires.some c.mark.new.marks
    c.min-len.result (search rules) reach (λ k l. c.mark.ensures k (search rules)) i h in
    omega (arith, fit, c.num_vals-count.ensures)

pub returns-clause-window : goal.returns-clause-window
returns-clause-window c =
    let above = block-behind (list_of c.args.starts.now) c.args.block.now c.args.first (c.args.position + 1)
    c.requires.rising c.requires.first c.requires.block c.requires.within (length c.args.block.now - 1)
    (omega (arith, c.requires.some)) in
    let reach : c.args.position + 1 + c.min-len.result ≤ get_or c.args.block.now (length c.args.block.now - 1) 0 + 1
    = omega (arith, above, c.min-len.ensures) in
    record {
      short = search rules;
      counts = λ i h.
          let ranked = marks-ranked (list_of c.args.starts.now) c.args.block.now c.args.first (c.args.position + 1)
          c.requires.rising c.requires.first c.requires.block c.requires.within c.requires.some c.mark.new.marks
          c.min-len.result (search rules) reach (λ k l. c.mark.ensures k (search rules)) i (omega (arith, h)) in
          c.sum_up.ensures i h ∙ ranked;
    }

pub returns-clause-some : goal.returns-clause-some
returns-clause-some c =
    let above = block-behind (list_of c.args.starts.now) c.args.block.now c.args.first (c.args.position + 1)
    c.requires.rising c.requires.first c.requires.block c.requires.within (length c.args.block.now - 1)
    (omega (arith, c.requires.some)) in
    omega (arith, above, c.min-len.ensures)
