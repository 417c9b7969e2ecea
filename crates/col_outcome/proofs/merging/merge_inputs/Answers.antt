use Rattle.std.proofs.Common.{map, option_map, arith}
use Rattle.std.proofs.lemmas.Result.{err_from_is_err_and}
use Rattle.col_questions.specs.Questions.{question_of}
use Rattle.col_lines.specs.RowOrders.{row_order_of}
use Rattle.col_merge_plan.specs.Slots.{required_of}
use Rattle.col_outcome.specs.Making.{IsMade}
use Rattle.col_outcome.specs.Parts.{handed_in}
use Rattle.col_outcome.proofs.MakeLemmas.{inputs-memory, held-long}
use Rattle.col_outcome.proofs.PartLemmas.{all_keep-none}
use Rattle.col_outcome.proofs.merging.merge_inputs.Goals as goal

pub returns-in_err-readers : goal.returns-in_err-readers
returns-in_err-readers g c =
    let see = g.H.FileHandle.seen in
    let p = err_from_is_err_and c.from_residual.result c.from_residual.ensures.1 in
    rw p.1 (inputs-memory (IsMade c.args.short (map question_of c.args.questions.now))
    (handed_in see c.args.inputs.now.items) (handed_in see c.args.inputs.now.items) c.args.files.now
    (required_of c.args.required.now) (option_map row_order_of c.args.order) p.0 p.2
    (all_keep-none (handed_in see c.args.inputs.now.items)))

pub hand_back-requires : goal.hand_back-requires
hand_back-requires g c =
    let see = g.H.FileHandle.seen in
    omega (
      arith,
      held-long see c.reverse.new.self.items c.merge_opened-made.new.left.items
          c.merge_opened-made.new.readers.items c.merge_opened-made.ensures.kept,
      c.merge_opened-made.new.left.ok.0,
      c.reverse.new.self.ok.0,
      c.reverse.ensures.len,
      c.reverse.ensures.capacity,
      c.merge_opened-made.ensures.room,
    )
