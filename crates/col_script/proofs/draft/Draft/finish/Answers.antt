use Rattle.std.proofs.Common.{refl}
use Rattle.col_script.proofs.TakeLemmas.{ends}
use Rattle.col_script.proofs.draft.Draft.finish.Goals as goal

pub returns : goal.returns
returns c =
    ends c.args.self (record {
      segments = c.add_last.new.segments;
      required = c.args.self.required;
      order = c.args.self.order;
      questions = c.args.self.questions;
    })
    c.in_ok-add_last.ensures refl refl refl
