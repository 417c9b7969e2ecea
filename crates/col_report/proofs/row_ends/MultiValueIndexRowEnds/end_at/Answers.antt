use Rattle.std.proofs.Common.{sym, arith}
use Rattle.col_index.specs.MultiValues.{value_counts_of}
use Rattle.col_report.proofs.EndLemmas.{ends-there, hint-there}
use Rattle.col_report.proofs.row_ends.MultiValueIndexRowEnds.end_at.Goals as goal

pub next_end-requires : goal.next_end-requires
next_end-requires c = hint-there (value_counts_of c.args.self.now) c.args.rank c.args.row c.requires.row (omega arith)

pub unreachable-requires : goal.unreachable-requires
unreachable-requires c =
    ends-there (value_counts_of c.args.self.now) c.args.rank c.args.row c.requires.row (sym c.in-None.ensures.end)
