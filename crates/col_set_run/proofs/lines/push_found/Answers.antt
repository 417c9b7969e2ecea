use Rattle.col_set_run.proofs.LineLemmas.{found-whole}
use Rattle.col_set_run.proofs.lines.push_found.Goals as goal

pub push_line-requires : goal.push_line-requires
push_line-requires c =
    rw (c.in_ok-line.ensures, c.in_ok-ids.ensures) (found-whole c.args.name.now c.word.result.now c.args.places.now)
