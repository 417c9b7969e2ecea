use Rattle.std.proofs.Common.{sym}
use Rattle.col_codecs.specs.ColumnStats.{stats_seen}
use Rattle.col_codecs.proofs.HeaderLemmas.{values64-some, values64-none}
use Rattle.col_codecs.proofs.linear.LinearCodecColumnCodec.load.Goals as goal

pub returns-in_default : goal.returns-in_default
returns-in_default c = values64-none 1 c.args.bytes (sym c.in_default.ensures.value)

pub returns : goal.returns
returns c = rw (values64-some 1 c.args.bytes (stats_seen c.in-Some.stats) c.in-Some.behind (sym c.in-Some.ensures.value)) c.open.ensures
