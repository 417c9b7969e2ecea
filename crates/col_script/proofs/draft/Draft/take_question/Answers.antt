use Rattle.col_script.proofs.TakeLemmas.{takes-question}
use Rattle.col_script.proofs.draft.Draft.take_question.Goals as goal

pub returns : goal.returns
returns c = takes-question c.args.self.now c.push.new.self c.args.question c.in_ok-push.ensures.items
