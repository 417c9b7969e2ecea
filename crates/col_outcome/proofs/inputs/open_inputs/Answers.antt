use Rattle.std.proofs.Common.{reverse, sym, ◌∙◌, arith}
use Rattle.col_outcome.specs.Parts.{given}
use Rattle.col_outcome.proofs.InputLemmas.{opened-one}
use Rattle.col_outcome.proofs.OpeningLemmas.{no_items, opening-more, opening-refused, opening-all}
use Rattle.col_outcome.proofs.inputs.open_inputs.Goals as goal

pub loop-input-preserved : goal.loop-input-preserved
loop-input-preserved g c =
    let see = g.H.FileHandle.seen in record {
      opening =
          opening-more see (reverse c.args.left.now.items) c.loop-input.readers.items c.push_reserved.new.self.items
          c.loop-input.left.items c.pop.new.self.items c.in-Some.input c.in-Ok.reader c.loop-input.invariant.opening
          c.in-Some.ensures.items (opened-one (given (see c.in-Some.input)) c.in-Ok.reader c.in-Ok.ensures)
          c.push_reserved.ensures.items;
      fits =
          omega (
            arith,
            c.in-Some.ensures.len,
            c.push_reserved.ensures.len,
            c.push_reserved.ensures.capacity,
            c.loop-input.invariant.fits,
          );
      left_room = c.in-Some.ensures.capacity ∙ c.loop-input.invariant.left_room;
      room = c.push_reserved.ensures.capacity ∙ c.loop-input.invariant.room;
    }

pub returns-in-Err-clause-opens : goal.returns-in-Err-clause-opens
returns-in-Err-clause-opens g c =
    let see = g.H.FileHandle.seen in
    opening-refused see (reverse c.args.left.now.items) c.loop-input.readers.items c.loop-input.left.items
    c.pop.new.self.items c.hand_back_one.new.left.items c.in-Some.input _ c.in-Err.error
    c.loop-input.invariant.opening c.in-Some.ensures.items c.in-Err.ensures.0 c.in-Err.ensures.1
    c.hand_back_one.ensures.handed

pub returns-clause-opens : goal.returns-clause-opens
returns-clause-opens g c =
    let see = g.H.FileHandle.seen in
    opening-all see (reverse c.args.left.now.items) c.loop-input.readers.items c.loop-input.left.items
    c.pop.new.self.items tt c.loop-input.invariant.opening
    (no_items c.loop-input.left.items (sym c.loop-input.left.ok.0 ∙ c.in_default.ensures.cases.0))
    (no_items c.pop.new.self.items (sym c.pop.new.self.ok.0 ∙ c.in_default.ensures.cases.1))
