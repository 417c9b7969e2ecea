use Rattle.std.proofs.Common.{◌∙◌, ◌<◌, ◌^◌, sym, ap, subst, length, map}
use Rattle.std.specs.List.{AllByRecursion}
use Rattle.col_order.specs.Orders.{address_of}
use Rattle.col_merge_texts.specs.Items.{lists_of, terms_of}
use Rattle.col_merge_terms.specs.Numbering.{merged_places}
use Rattle.std.specs.Ordering.{nat_cmp}
use Rattle.col_sort_rows.specs.Keys.{added, rows_of_all, rows_by_keys}
use Rattle.col_sort.specs.Texts.{IsToldText, all_term_keys}
use Rattle.col_sort.proofs.TermCountLemmas.{length-texts}
use Rattle.col_sort.proofs.TextLemmas.{texts-sorted}
use Rattle.col_sort.proofs.texts.rows_by_texts.Goals as goal

pub compute_merged_term_ord_mapping-requires : goal.compute_merged_term_ord_mapping-requires
compute_merged_term_ord_mapping-requires c =
    let long = length-texts c.args.counts.now c.args.columns.now c.in_ok-texts.texts.items c.in_ok-texts.ensures in
    subst (λ n. n < 2 ^ 32) (sym (ap length c.deref-2.ensures.value ∙ long)) c.requires.segments

pub push_texts-requires-clause-few : goal.push_texts-requires-clause-few
push_texts-requires-clause-few c =
    let long = length-texts c.args.counts.now c.args.columns.now c.in_ok-texts.texts.items c.in_ok-texts.ensures in
    subst (λ n. n < 2 ^ 32) (sym (ap length c.deref-4.ensures.value ∙ long)) c.requires.segments

pub returns-clause-ok : goal.returns-clause-ok
returns-clause-ok c =
    let texts = c.in_ok-texts.texts.items in
    let one = c.deref.ensures.value in
    let two = c.deref-2.ensures.value in
    let three = c.deref-4.ensures.value in
    let kss = all_term_keys c.deref-4.result.now (lists_of c.deref-5.result.now) in
    let places = ap lists_of c.deref-5.ensures.value ∙ c.in_ok-places.ensures.ok ∙ ap (λ ts. merged_places (terms_of ts)) two in
    texts-sorted c.args.reversed c.args.counts.now c.args.columns.now texts (lists_of c.deref-5.result.now)
    (map address_of c.in_ok-into_rows.field-0.items) c.requires.rows c.in_ok-texts.ensures
    (subst (AllByRecursion IsToldText) one c.texts_are_told.ensures) places
    (c.in_ok-into_rows.ensures kss (c.in_ok-push_texts.ensures ∙ ap (λ rows. added rows (rows_of_all 0 kss)) c.rows_between-rows.ensures)
    ∙ ap (λ ts. rows_by_keys nat_cmp c.args.reversed (all_term_keys ts (lists_of c.deref-5.result.now))) three)
