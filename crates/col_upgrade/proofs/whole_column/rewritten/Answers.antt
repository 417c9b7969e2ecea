use Rattle.std.proofs.Common.{sym}
use Rattle.std.proofs.lemmas.Result.{IfOk-weaker}
use Rattle.col_index.specs.Versions.{version_number}
use Rattle.col_types.specs.Kinds.{kind_of}
use Rattle.col_upgrade.proofs.NumberLemmas.{column-has_rows, column-has_texts, column-numbers, column-texts}
use Rattle.col_upgrade.proofs.RefusalLemmas.{content-read}
use Rattle.col_upgrade.proofs.whole_column.rewritten.Goals as goal

pub texts_again-requires : goal.texts_again-requires
texts_again-requires c =
    let t = kind_of c.args.column_type in
    let version = version_number c.args.format_version in
    let some = content-read c.args.bytes t version c.args.num_rows c.requires in
    column-has_texts c.args.bytes t version c.args.num_rows some.0 (sym c.if-has_terms.ensures) some.1

pub push_numbers-requires : goal.push_numbers-requires
push_numbers-requires c =
    let t = kind_of c.args.column_type in
    let version = version_number c.args.format_version in
    let some = content-read c.args.bytes t version c.args.num_rows c.requires in
    column-has_rows c.args.bytes t version c.args.num_rows some.0 (sym c.if-has_terms.ensures) some.1

pub returns-then-has_terms-clause-ok : goal.returns-then-has_terms-clause-ok
returns-then-has_terms-clause-ok c =
    let t = kind_of c.args.column_type in
    let version = version_number c.args.format_version in
    IfOk-weaker c.texts_again.result _ _
    (λ made h. column-texts made c.args.bytes t version c.args.num_rows (sym c.if-has_terms.ensures) h)
    c.texts_again.ensures.ok

pub returns-clause-ok : goal.returns-clause-ok
returns-clause-ok c =
    let t = kind_of c.args.column_type in
    let version = version_number c.args.format_version in
    column-numbers c.new-made.result c.push_numbers.new.made c.args.bytes t version c.args.num_rows c.new-made.ensures
    (sym c.if-has_terms.ensures) c.in_ok-push_numbers.ensures.ok
