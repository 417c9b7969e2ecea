use Rattle.std.proofs.Common.{is_some, ap}
use Rattle.col_query.proofs.NamedLemmas.{unnamed}
use Rattle.col_query.proofs.named.place_named.Goals as goal

pub returns-in-All-clause-place : goal.returns-in-All-clause-place
returns-in-All-clause-place g c = unnamed c.args.step.now c.args.reader.now.keys.entries c.in-All.is

pub returns-in-All-clause-some : goal.returns-in-All-clause-some
returns-in-All-clause-some g c = ap is_some (unnamed c.args.step.now c.args.reader.now.keys.entries c.in-All.is)

pub returns-in-All-2-clause-place : goal.returns-in-All-2-clause-place
returns-in-All-2-clause-place g c = unnamed c.args.step.now c.args.reader.now.keys.entries c.in-All.is

pub returns-in-All-2-clause-some : goal.returns-in-All-2-clause-some
returns-in-All-2-clause-some g c = ap is_some (unnamed c.args.step.now c.args.reader.now.keys.entries c.in-All.is)

pub returns-in-All-3-clause-place : goal.returns-in-All-3-clause-place
returns-in-All-3-clause-place g c = unnamed c.args.step.now c.args.reader.now.keys.entries c.in-All.is

pub returns-in-All-3-clause-some : goal.returns-in-All-3-clause-some
returns-in-All-3-clause-some g c = ap is_some (unnamed c.args.step.now c.args.reader.now.keys.entries c.in-All.is)

pub returns-in-All-4-clause-place : goal.returns-in-All-4-clause-place
returns-in-All-4-clause-place g c = unnamed c.args.step.now c.args.reader.now.keys.entries c.in-All.is

pub returns-in-All-4-clause-some : goal.returns-in-All-4-clause-some
returns-in-All-4-clause-some g c = ap is_some (unnamed c.args.step.now c.args.reader.now.keys.entries c.in-All.is)
