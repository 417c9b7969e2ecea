use Rattle.std.proofs.Common.{◌∙◌, sym, arith, ◌≡◌, ◌<◌, ◌^◌, Some, true}
use Rattle.col_model.specs.Written.{is_permutation}
use Rattle.col_writer_rows.proofs.OrderLemmas.{has_all-permutation, placed-first, placed-docs}
use Rattle.col_writer_rows.proofs.row_order.RowOrder.from_permutation.Goals as goal

pub returns-then-not-has_all-clause-bad_order : goal.returns-then-not-has_all-clause-bad_order
returns-then-not-has_all-clause-bad_order c e =
    let fits : c.args.num_docs < 2 ^ 32 = omega arith in
    sym (has_all-permutation c.args.num_docs c.args.old_to_new.now c.deref.result.now fits
    c.if-old_to_new-num_docs.false (c.deref.ensures.value ∙ c.in_ok-docs.ensures)) ∙ sym c.has_all.ensures
    ∙ c.if-not-has_all.true

pub invariant_of-result : goal.invariant_of-result
invariant_of-result c =
    let fits : c.args.num_docs < 2 ^ 32 = omega arith in
    let perm : is_permutation c.args.num_docs (Some c.args.old_to_new.now) ≡ true =
    sym (has_all-permutation c.args.num_docs c.args.old_to_new.now c.deref.result.now fits
    c.if-old_to_new-num_docs.false (c.deref.ensures.value ∙ c.in_ok-docs.ensures)) ∙ sym c.has_all.ensures
    ∙ c.if-not-has_all.false in
    placed-docs c.args.num_docs c.args.old_to_new.now c.in_ok-docs.docs.items c.if-old_to_new-num_docs.false c.in_ok-docs.ensures perm

pub returns : goal.returns
returns c =
    let fits : c.args.num_docs < 2 ^ 32 = omega arith in
    let perm : is_permutation c.args.num_docs (Some c.args.old_to_new.now) ≡ true =
    sym (has_all-permutation c.args.num_docs c.args.old_to_new.now c.deref.result.now fits
    c.if-old_to_new-num_docs.false (c.deref.ensures.value ∙ c.in_ok-docs.ensures)) ∙ sym c.has_all.ensures
    ∙ c.if-not-has_all.false in
    record {
      ok = (placed-first c.args.num_docs c.args.old_to_new.now c.in_ok-docs.docs.items c.in_ok-docs.ensures perm, perm);
      bad_order = λ e. cc;
      err = tt;
    }
