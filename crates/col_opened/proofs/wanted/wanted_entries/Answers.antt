use Rattle.std.proofs.Common.{map, drop}
use Rattle.col_file.specs.Handles.{listed}
use Rattle.col_opened.specs.Opened.{seen_listed}
use Rattle.col_opened.proofs.ChosenLemmas.{chosen-end}
use Rattle.col_opened.proofs.wanted.wanted_entries.Goals as goal

pub returns : goal.returns
returns g c =
    chosen-end listed c.args.wanted.now (drop c.loop-name.place c.args.wanted.now) c.args.reader.now.keys.entries
    (map seen_listed c.loop-name.found.items) c.loop-name.name-iterator c.in-None.ensures.steps.0 c.loop-name.invariant.2
