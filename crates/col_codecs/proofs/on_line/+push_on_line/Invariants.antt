use Rattle.std.proofs.Common.{◌-◌}
use Rattle.col_codecs.proofs.on_line.+push_on_line.Given as goal

abbrev pub decreases-push_on_line : goal.decreases-push_on_line
decreases-push_on_line l = l.ids.end - l.ids.start
