use Rattle.col_lines.specs.Lines.{call_of}
use Rattle.col_script.proofs.TakeLemmas.{takes-no_call, takes-call}
use Rattle.col_script.proofs.draft.Draft.take_call.Goals as goal

pub returns-in_default : goal.returns-in_default
returns-in_default c = takes-no_call c.args.self.now c.args.self.now (call_of c.args.call) c.in_default.is

pub returns : goal.returns
returns c = takes-call c.args.self.now c.in-Some.segment c.record.new.self (call_of c.args.call) c.in-Some.is c.in_ok-record.ensures.ok
