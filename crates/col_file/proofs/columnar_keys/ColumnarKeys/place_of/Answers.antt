use Rattle.std.proofs.Common.{Bool, bytes_eq, is_some, ap, arith}
use Rattle.col_model.specs.ColumnType.{same_type}
use Rattle.col_model.specs.Keys.{Entry}
use Rattle.col_types.specs.Kinds.{kind_of}
use Rattle.col_file.proofs.TypeLemmas.{found-in_run, found-none, found-here, found-some, found-later}
use Rattle.col_file.proofs.columnar_keys.ColumnarKeys.place_of.Goals as goal

pub loop-at-init : goal.loop-at-init
loop-at-init c =
    let named : Entry → Bool = λ e. bytes_eq e.key.name c.args.name.now in
    let typed : Entry → Bool = λ e. same_type e.key.column_type (kind_of c.args.column_type) in
    found-in_run named typed c.args.self.now.entries _ _ c.named-places.ensures

pub loop-at-preserved : goal.loop-at-preserved
loop-at-preserved c =
    let typed : Entry → Bool = λ e. same_type e.key.column_type (kind_of c.args.column_type) in
    found-later typed c.args.self.now.entries c.loop-at.at _ _ c.loop-at.invariant c.is_of.result c.is_of.ensures
    (omega arith) c.if-is_of.false

pub returns-then-is_of-clause-place : goal.returns-then-is_of-clause-place
returns-then-is_of-clause-place c =
    let typed : Entry → Bool = λ e. same_type e.key.column_type (kind_of c.args.column_type) in
    found-here typed c.args.self.now.entries c.loop-at.at _ _ c.loop-at.invariant c.is_of.result c.is_of.ensures
    (omega arith) c.if-is_of.true

pub returns-then-is_of-clause-some : goal.returns-then-is_of-clause-some
returns-then-is_of-clause-some c =
    let typed : Entry → Bool = λ e. same_type e.key.column_type (kind_of c.args.column_type) in
    found-some typed c.args.self.now.entries c.loop-at.at _ _ c.loop-at.invariant c.is_of.result c.is_of.ensures
    (omega arith) c.if-is_of.true

pub returns-clause-place : goal.returns-clause-place
returns-clause-place c =
    let typed : Entry → Bool = λ e. same_type e.key.column_type (kind_of c.args.column_type) in
    found-none typed c.args.self.now.entries c.loop-at.at _ _ c.loop-at.invariant (omega arith)

pub returns-clause-some : goal.returns-clause-some
returns-clause-some c =
    let typed : Entry → Bool = λ e. same_type e.key.column_type (kind_of c.args.column_type) in
    ap is_some (found-none typed c.args.self.now.entries c.loop-at.at _ _ c.loop-at.invariant (omega arith))
