use Rattle.std.proofs.Common.{◌∙◌, ap, subst, arith, List}
use Rattle.col_writer_columns.specs.Values.{same_then, TypeGoesOn}
use Rattle.col_types.specs.declared.numerical_type.NumericalType.{NumericalType}
use Rattle.col_writer_columns.proofs.TypeListLemmas.{same_then-next, same_then-push}
use Rattle.col_writer_columns.proofs.type_list.TypeList.push.Goals as goal

pub overflow_add-self : goal.overflow_add-self
overflow_add-self c = let h = c.goes_on.ensures c.if-goes_on.true in omega (arith, h.few)

pub returns-then-goes_on-clause-ok : goal.returns-then-goes_on-clause-ok
returns-then-goes_on-clause-ok c =
    let h = c.goes_on.ensures c.if-goes_on.true in
    let P : List NumericalType → Type 0 = λ r. TypeGoesOn c.self.inside.first c.self.inside.num_first r c.args.next in
    same_then-next c.self.inside.num_first c.self.inside.first c.args.next c.self.inside.others.items
    c.args.self.now c.self.view_is (subst P c.deref.ensures.value h)

pub returns-clause-ok : goal.returns-clause-ok
returns-clause-ok c =
    ap (same_then c.self.inside.num_first c.self.inside.first) c.in_ok-push.ensures.items
    ∙ same_then-push c.self.inside.num_first c.self.inside.first c.args.next c.self.inside.others.items
    c.args.self.now c.self.view_is
