use Rattle.col_script.proofs.TakeLemmas.{takes-required}
use Rattle.col_script.proofs.draft.Draft.take_required.Goals as goal

pub returns : goal.returns
returns c = takes-required c.args.self.now c.push.new.self (c.args.name, c.args.column_type) c.in_ok-push.ensures.items
