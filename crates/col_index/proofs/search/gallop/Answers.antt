use Rattle.std.proofs.Common.{rules, ◌+◌, ◌<◌, length, arith}
use Rattle.col_numbers.specs.Readers.{list_of}
use Rattle.col_index.proofs.SearchLemmas.{narrowed_done, narrowed_less, narrowed_not_less}
use Rattle.col_index.proofs.search.gallop.Goals as goal

pub narrow-requires-clause-narrowed : goal.narrow-requires-clause-narrowed
narrow-requires-clause-narrowed c =
    let numbers = list_of c.args.values.now in
    let low = c.loop-low.low in
    let inside : low + c.min.result < length numbers = search rules in
    narrowed_not_less numbers c.args.target low (length numbers) (low + c.min.result) c.get_val.result
    c.requires.rising c.loop-low.invariant.narrowed (omega arith) inside c.get_val.ensures
    c.if-get_val-target.true

pub loop-low-preserved : goal.loop-low-preserved
loop-low-preserved c =
    let numbers = list_of c.args.values.now in
    let low = c.loop-low.low in
    let inside : low + c.min.result < length numbers = search rules in
    record {
      narrowed =
          narrowed_less numbers c.args.target low (length numbers) (low + c.min.result) c.get_val.result
          c.requires.rising c.loop-low.invariant.narrowed (omega arith) inside c.get_val.ensures
          c.if-get_val-target.false;
      some_step = omega arith;
    }

pub returns : goal.returns
returns c =
    let numbers = list_of c.args.values.now in
    narrowed_done numbers c.args.target c.loop-low.low (length numbers) (omega arith) c.loop-low.invariant.narrowed
