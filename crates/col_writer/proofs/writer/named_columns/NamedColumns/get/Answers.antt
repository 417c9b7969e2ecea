use Rattle.std.proofs.Common.{sym}
use Rattle.col_writer.proofs.PlaceLemmas.{found-there, nowhere}
use Rattle.col_writer.proofs.writer.named_columns.NamedColumns.get.Goals as goal

pub returns-in-Some : goal.returns-in-Some
returns-in-Some g c =
    sym (found-there c.args.name.now c.deref.result.now c.self.inside.columns.items c.args.self.now c.in-Some.place
    c.index.result.now c.in-Some.ensures c.deref.ensures.value c.self.view_is c.index.ensures c.self.invariant.differ)

pub returns-in-None : goal.returns-in-None
returns-in-None g c =
    sym (nowhere c.args.name.now c.deref.result.now c.self.inside.columns.items c.args.self.now c.in-None.ensures
    c.deref.ensures.value c.self.view_is)
