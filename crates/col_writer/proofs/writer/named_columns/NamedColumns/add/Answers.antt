use Rattle.std.proofs.Common.{◌≡◌, length, refl, ◌∙◌, ap, Err, string_bytes, arith}
use Rattle.std.proofs.lemmas.Result.{err_from_is_err_and}
use Rattle.col_writer.specs.Changes.{wanting}
use Rattle.col_writer.proofs.ChangeLemmas.{none-refused, none-set}
use Rattle.col_writer.proofs.PlaceLemmas.{pushed-set, pushed-placed}
use Rattle.col_writer.proofs.writer.named_columns.NamedColumns.add.Goals as goal

pub returns-in_err-make : goal.returns-in_err-make
returns-in_err-make g c =
    let p = err_from_is_err_and c.from_residual.result c.from_residual.ensures.1 in
    none-refused g.C.NewColumn.is_empty (g.D.Change.makes c.args.change) c.args.name.now c.args.self.now
    c.empty-column.result c.make.new.column c.from_residual.result p.0 _ p.1 p.2 c.requires c.empty-column.ensures
    c.in_err-make.ensures

pub returns-in_err-key : goal.returns-in_err-key
returns-in_err-key g c =
    let p = err_from_is_err_and c.from_residual-in_err-key.result c.from_residual-in_err-key.ensures.1 in
    wanting (p.1 ∙ ap Err p.2) refl

pub returns-in_err-insert : goal.returns-in_err-insert
returns-in_err-insert g c =
    let p = err_from_is_err_and c.from_residual-in_err-insert.result c.from_residual-in_err-insert.ensures.1 in
    wanting (p.1 ∙ ap Err p.2) (c.in_ok-reserve.ensures.items ∙ c.self.view_is)

pub invariant_of-self-2 : goal.invariant_of-self-2
invariant_of-self-2 g c =
    let many : c.len.result ≡ length c.reserve.new.self.items = omega (arith, c.len.ensures, c.reserve.new.self.ok.0) in
    pushed-placed c.args.name.now c.in_ok-key.key c.in_ok-place_key.place_key c.make.new.column c.args.self.now
    c.self.inside.columns.items c.reserve.new.self.items c.push_reserved.new.self.items c.self.inside.places c.insert.new.self
    c.len.result c.requires c.in_ok-key.ensures.ok c.in_ok-place_key.ensures.ok c.self.view_is c.in_ok-reserve.ensures.items
    c.push_reserved.ensures.items many c.self.invariant c.in_ok-insert.ensures.updates

pub returns : goal.returns
returns g c =
    none-set g.C.NewColumn.is_empty (g.D.Change.makes c.args.change) c.args.name.now c.args.self.now
    c.empty-column.result c.make.new.column c.push_reserved.new.self.items (string_bytes c.in_ok-key.key) c.requires
    c.empty-column.ensures c.in_ok-make.ensures c.in_ok-key.ensures.ok
    (pushed-set c.args.name.now c.in_ok-key.key c.make.new.column c.args.self.now c.self.inside.columns.items
    c.reserve.new.self.items c.push_reserved.new.self.items c.requires c.in_ok-key.ensures.ok c.self.view_is
    c.in_ok-reserve.ensures.items c.push_reserved.ensures.items)
