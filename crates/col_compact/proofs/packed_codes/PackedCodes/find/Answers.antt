use Rattle.std.proofs.Common.{◌∙◌}
use Rattle.std.specs.Range.{range_inclusive_start, range_inclusive_end}
use Rattle.col_compact.proofs.LookupLemmas.{found-by-codes}
use Rattle.col_compact.proofs.packed_codes.PackedCodes.find.Goals as goal

pub returns-in-Ok-clause-ok : goal.returns-in-Ok-clause-ok
returns-in-Ok-clause-ok c =
    let p = c.self.inside in
    let codes = c.args.codes in
    c.in-Ok.ensures.ok
    ∙ found-by-codes p.bytes.now c.args.self.now p.bit_unpacker (range_inclusive_start codes) (range_inclusive_end codes)
    c.args.rows.start c.args.rows.end c.min.result p.count c.self.view_is c.min.ensures
