use Rattle.std.proofs.Common.{◌∙◌, ◌++◌, ◌-◌, ap, drop, length, sym, arith}
use Rattle.std.specs.Int.{w32}
use Rattle.std.proofs.lemmas.Result.{err_from_is_err_and}
use Rattle.col_common.specs.Reading.{parts_by_first}
use Rattle.col_index.specs.Versions.{version_number}
use Rattle.col_upgrade.proofs.NumberLemmas.{texts-added, texts-cut, texts-long, texts-rows}
use Rattle.col_upgrade.proofs.RefusalLemmas.{only-memory}
use Rattle.col_upgrade.proofs.whole_column.texts_again.Goals as goal

pub returns-in_err-dictionary-clause-err : goal.returns-in_err-dictionary-clause-err
returns-in_err-dictionary-clause-err c =
    let p = err_from_is_err_and c.from_residual-in_err-dictionary.result c.from_residual-in_err-dictionary.ensures.1 in
    rw (p.1, p.2) (only-memory c.in_err-dictionary.field-0.0 (parts_by_first w32 c.in_ok-shared.shared)
    (λ none. texts-cut c.args.bytes (version_number c.args.format_version) c.args.num_rows c.requires
    (ap (parts_by_first w32) (sym c.in_ok-shared.ensures.cases) ∙ none)) c.in_err-dictionary.ensures)

pub push_numbers-requires : goal.push_numbers-requires
push_numbers-requires c =
    texts-rows c.args.bytes c.in_ok-dictionary.dictionary c.in_ok-dictionary.ords (version_number c.args.format_version)
    c.args.num_rows (ap (parts_by_first w32) (sym c.in_ok-shared.ensures.cases) ∙ c.in_ok-dictionary.ensures) c.requires

pub dictionary_len-requires : goal.dictionary_len-requires
dictionary_len-requires c =
    omega (
      arith,
      ap length c.as_slice-2.ensures,
      texts-long c.args.bytes (version_number c.args.format_version) c.args.num_rows c.requires,
    )

pub returns-clause-ok : goal.returns-clause-ok
returns-clause-ok c =
    texts-added c.new-made.result c.push.new.made c.push_numbers.new.made c.push-2.new.made c.args.bytes
    c.in_ok-dictionary.dictionary c.in_ok-dictionary.ords (version_number c.args.format_version) c.args.num_rows
    c.new-made.ensures (c.in_ok-push.ensures ∙ ap (λ s. c.new-made.result ++ s) c.as_slice.ensures)
    c.in_ok-push_numbers.ensures.ok
    (c.in_ok-push-2.ensures ∙ ap (λ s. c.push_numbers.new.made ++ s)
    (c.dictionary_len.ensures ∙ ap (λ b. drop (length b - 4) b) c.as_slice-2.ensures))
    (ap (parts_by_first w32) (sym c.in_ok-shared.ensures.cases) ∙ c.in_ok-dictionary.ensures)
