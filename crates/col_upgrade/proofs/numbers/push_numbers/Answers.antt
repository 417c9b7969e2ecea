use Rattle.std.proofs.Common.{◌∙◌, ◌++◌, ◌<◌, ◌^◌, length, ap, arith}
use Rattle.std.specs.Int.{w64, to_le_bytes}
use Rattle.std.proofs.lemmas.Result.{err_from_is_err_and}
use Rattle.col_common.specs.Reading.{parts_by_first}
use Rattle.col_index.specs.Versions.{version_number}
use Rattle.col_upgrade.proofs.NumberLemmas.{index-countable, rows-added, rows-cut}
use Rattle.col_upgrade.proofs.RefusalLemmas.{only-memory}
use Rattle.col_upgrade.proofs.numbers.push_numbers.Goals as goal

pub returns-in_err-old_index-clause-err : goal.returns-in_err-old_index-clause-err
returns-in_err-old_index-clause-err c =
    let p = err_from_is_err_and c.from_residual.result c.from_residual.ensures.1 in
    rw (p.1, p.2) (only-memory c.in_err-old_index.field-0.0 (parts_by_first w64 c.args.bytes)
    (rows-cut c.args.bytes (version_number c.args.format_version) c.args.num_rows c.requires) c.in_err-old_index.ensures)

pub index_again-requires : goal.index_again-requires
index_again-requires c =
    index-countable c.args.bytes c.in_ok-old_index.old_index c.in_ok-old_index.values (version_number c.args.format_version)
    c.args.num_rows c.in_ok-old_index.ensures c.requires

pub returns-clause-ok : goal.returns-clause-ok
returns-clause-ok c =
    let made = c.in_ok-new_index.new_index in
    let values = c.in_ok-old_index.values in
    let same = c.as_slice-index.ensures in
    let short : length made < 2 ^ 64 = omega (arith, ap length same) in
    rows-added c.args.made.now c.push.new.made c.push-2.new.made c.push-3.new.made c.args.bytes
    c.in_ok-old_index.old_index values made (version_number c.args.format_version) c.args.num_rows
    (c.in_ok-push.ensures ∙ ap (λ m. c.args.made.now ++ m) same)
    (c.in_ok-push-2.ensures ∙ ap (λ m. c.push.new.made ++ m) c.as_slice.ensures)
    (c.in_ok-push-3.ensures ∙ ap (λ b. c.push-2.new.made ++ b)
    (c.to_le_bytes.ensures ∙ ap (λ m. to_le_bytes w64 (length m)) same))
    c.in_ok-old_index.ensures short c.in_ok-new_index.ensures.ok
