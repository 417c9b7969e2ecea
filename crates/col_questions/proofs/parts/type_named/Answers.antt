use Rattle.std.proofs.Common.{sym}
use Rattle.col_questions.proofs.WordLemmas.{no_type}
use Rattle.col_questions.proofs.parts.type_named.Goals as goal

pub returns-in_default : goal.returns-in_default
returns-in_default c =
    let w = c.in_default in
    sym (no_type c.args.word.now w.not-i64 w.not-u64 w.not-bytes w.not-str w.not-bool w.not-ip w.not-datetime)
