use Rattle.col_bits.proofs.RaisedLemmas.{raised_four}
use Rattle.col_bits.proofs.in_place.raised.Goals as goal

pub returns : goal.returns
returns g c = raised_four c.args.number g.row.W c.args.from c.requires.small c.requires.width
