use Rattle.col_writer.specs.Changes.{of_name}
use Rattle.col_writer.proofs.PlaceLemmas.{found-there, set-there, placed-there, nowhere}
use Rattle.col_writer.proofs.writer.named_columns.NamedColumns.change.Goals as goal

pub returns-in-Some : goal.returns-in-Some
returns-in-Some g c =
    of_name c.index_mut.result.now.1 c.make.new.column
    (found-there c.args.name.now c.deref.result.now c.self.inside.columns.items c.args.self.now c.in-Some.place
    c.index_mut.result.now c.in-Some.ensures c.deref.ensures.value c.self.view_is c.index_mut.ensures.value c.self.invariant.differ)
    c.make.ensures
    (set-there c.args.name.now c.deref.result.now c.self.inside.columns.items c.args.self.now c.in-Some.place
    c.index_mut.result.now c.in-Some.ensures c.deref.ensures.value c.self.view_is c.index_mut.ensures.value c.self.invariant.differ
    c.make.new.column)

pub invariant_of-self : goal.invariant_of-self
invariant_of-self g c =
    placed-there c.args.name.now c.deref.result.now c.self.inside.columns.items c.args.self.now c.in-Some.place
    c.index_mut.result.now c.in-Some.ensures c.deref.ensures.value c.self.view_is c.index_mut.ensures.value c.self.invariant.differ
    c.make.new.column c.self.inside.places c.self.invariant

pub add-requires : goal.add-requires
add-requires g c =
    nowhere c.args.name.now c.deref.result.now c.self.inside.columns.items c.args.self.now c.in_default.ensures
    c.deref.ensures.value c.self.view_is
