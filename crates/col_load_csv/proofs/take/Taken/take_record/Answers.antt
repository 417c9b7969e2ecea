use Rattle.std.proofs.Common.{◌+◌, [], ◌∷◌, map, subst, Ok, Err, sym, ap, ◌∙◌}
use Rattle.csv.specs.Records.{fields_of}
use Rattle.col_documents.specs.Read.{field_read, refusal_read, IsRefusedAs}
use Rattle.col_load.proofs.LineLemmas.{bad_in, bad_out}
use Rattle.col_load.proofs.TakenLemmas.{none_more}
use Rattle.col_load.specs.Loads.{bad_line, document_in}
use Rattle.col_load_csv.specs.Columns.{document_of}
use Rattle.col_load_csv.specs.Read.{column_read}
use Rattle.col_load_csv.proofs.PartLemmas.{bad_counted, good_counted}
use Rattle.col_load_csv.proofs.take.Taken.take_record.Goals as goal

pub returns-in_ok-push-in-Ok-clause-ok : goal.returns-in_ok-push-in-Ok-clause-ok
returns-in_ok-push-in-Ok-clause-ok c =
    let counts = c.args.self.now.counts in
    let document = document_of (map column_read c.args.columns.now) (fields_of c.args.row.now) in
    let is = c.in-Ok.ensures ∙ ap (λ fs. Ok (map field_read fs)) (sym c.deref.ensures.value) in
    record {
      more = map field_read c.deref.result.now ∷ [];
      read = ap (document_in c.args.skips (counts.0 + 1)) is;
      rows = c.in_ok-push-in-Ok.ensures;
      counts = c.with_line-self.ensures
          ∙ ap (λ n. (counts.0 + 1, n)) (good_counted counts.1 document (map field_read c.deref.result.now) is);
    }

pub returns-then-skips-clause-ok : goal.returns-then-skips-clause-ok
returns-then-skips-clause-ok c =
    let counts = c.args.self.now.counts in
    let document = document_of (map column_read c.args.columns.now) (fields_of c.args.row.now) in
    let refusal = refusal_read c.in-Err-Refused.refusal in
    let is = subst (λ e. IsRefusedAs e document) c.in-Err-Refused.field-0-is c.in-Err-Refused.ensures in
    record {
      more = [];
      read = ap (document_in c.args.skips (counts.0 + 1)) is ∙ bad_in c.args.skips (counts.0 + 1) refusal c.if-skips.true;
      rows = none_more c.args.self.now.rows;
      counts = c.with_skipped-self.ensures ∙ ap (λ n. (counts.0 + 1, n)) (bad_counted counts.1 document refusal is);
    }

pub returns-else-skips-clause-err : goal.returns-else-skips-clause-err
returns-else-skips-clause-err c =
    let number = c.args.self.now.counts.0 + 1 in
    let document = document_of (map column_read c.args.columns.now) (fields_of c.args.row.now) in
    ap (document_in c.args.skips number)
    (subst (λ e. IsRefusedAs e document) c.in-Err-Refused.field-0-is c.in-Err-Refused.ensures)
    ∙ bad_out c.args.skips number (refusal_read c.in-Err-Refused.refusal) c.if-skips.false
    ∙ ap (λ n. Err (bad_line (n + 1) (refusal_read c.in-Err-Refused.refusal))) (sym c.lines-in-Err-Refused.ensures)
