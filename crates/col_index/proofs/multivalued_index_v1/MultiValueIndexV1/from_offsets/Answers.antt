use Rattle.std.proofs.Common.{◌≡◌, ◌&&◌, true, sym, ◌∙◌, arith}
use Rattle.std.proofs.lemmas.Bool.{and_parts}
use Rattle.col_common.specs.Ascending.{is_never_falling}
use Rattle.col_model.specs.Index.{are_offsets}
use Rattle.col_numbers.specs.Readers.{list_of}
use Rattle.col_index.proofs.multivalued_index_v1.MultiValueIndexV1.from_offsets.Goals as goal

pub invariant_of-result : goal.invariant_of-result
invariant_of-result c =
    let xs = list_of c.args.start_index_column in
    let told : (are_offsets xs && is_never_falling xs) ≡ true = sym c.are_old_offsets.ensures ∙ c.if-not-are_old_offsets.false in
    let parts = and_parts (are_offsets xs) (is_never_falling xs) told in
    record {
      offsets = parts.0;
      never_fall = parts.1;
      few = omega (arith, c.num_vals-count.ensures, c.num_vals-count.type_inv);
    }
