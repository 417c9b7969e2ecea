use Rattle.std.proofs.Common.{◌+◌, true, false, [], ◌∷◌, map, subst, Ok, Err, refl, sym, ap, ◌∙◌, arith}
use Rattle.col_documents.specs.Documents.{fields_of}
use Rattle.col_documents.specs.Read.{field_read, refusal_read, IsRefusedAs}
use Rattle.col_load.specs.Loads.{bad_line, too_many}
use Rattle.col_load.specs.Loading.{forms_of}
use Rattle.col_load.specs.declared.load_error.LoadError.TheVariants.{BadLine, TooMany}
use Rattle.col_load.proofs.LineLemmas.{bad_blank, bad_full, line_blank, line_full, line_far, bad_in, bad_out}
use Rattle.col_load.proofs.TakenLemmas.{line_taken, line_stopped, none_more, not_last}
use Rattle.col_load.proofs.loader.Loader.take_line.Goals as goal

pub returns-then-lines : goal.returns-then-lines
returns-then-lines c =
    let old = c.args.self.now in
    line_stopped c.args.line.now old old TooMany too_many
    (line_far (forms_of old) old.skips (old.counts.0 + 1) c.args.line.now (omega (arith, c.lines.ensures, c.if-lines.true)))
    (λ lines is. is)

pub returns-then-is_blank : goal.returns-then-is_blank
returns-then-is_blank c =
    let old = c.args.self.now in
    line_taken c.args.line.now false old record {
      forms = old.forms;
      skips = old.skips;
      counts = c.with_line-self.result;
      rows = old.rows;
      scratch = old.scratch;
    } [] record {
      forms = refl;
      skips = refl;
      is = bad_blank (forms_of old) c.args.line.now (sym c.is_blank.ensures ∙ c.if-is_blank.true);
      counts = c.with_line-self.ensures;
      fits = not_last old.counts.0 c.lines.result c.lines.ensures c.lines.type_inv c.if-lines.false;
    }
    (line_blank (forms_of old) old.skips (old.counts.0 + 1) c.args.line.now
    (not_last old.counts.0 c.lines.result c.lines.ensures c.lines.type_inv c.if-lines.false)
    (sym c.is_blank.ensures ∙ c.if-is_blank.true)) (none_more old.rows)

pub returns-then-self : goal.returns-then-self
returns-then-self c =
    let old = c.args.self.now in
    line_taken c.args.line.now true old record {
      forms = old.forms;
      skips = old.skips;
      counts = c.with_skipped-self.result;
      rows = old.rows;
      scratch = c.read_document.new.scratch;
    } [] record {
      forms = refl;
      skips = refl;
      is = bad_full (forms_of old) c.args.line.now (Err (refusal_read c.in-Err-Refused.refusal))
          (sym c.is_blank.ensures ∙ c.if-is_blank.false)
          (subst (λ e. IsRefusedAs e (fields_of (forms_of old) c.args.line.now)) c.in-Err-Refused.field-0-is c.in-Err-Refused.ensures);
      counts = c.with_skipped-self.ensures;
      fits = not_last old.counts.0 c.lines.result c.lines.ensures c.lines.type_inv c.if-lines.false;
    }
    (line_full (forms_of old) old.skips (old.counts.0 + 1) c.args.line.now
    (not_last old.counts.0 c.lines.result c.lines.ensures c.lines.type_inv c.if-lines.false)
    (Err (refusal_read c.in-Err-Refused.refusal)) (sym c.is_blank.ensures ∙ c.if-is_blank.false)
    (subst (λ e. IsRefusedAs e (fields_of (forms_of old) c.args.line.now)) c.in-Err-Refused.field-0-is c.in-Err-Refused.ensures)
    ∙ bad_in old.skips (old.counts.0 + 1) (refusal_read c.in-Err-Refused.refusal) c.if-self.true) (none_more old.rows)

pub returns-in_ok-push-in-Ok : goal.returns-in_ok-push-in-Ok
returns-in_ok-push-in-Ok c =
    let old = c.args.self.now in
    line_taken c.args.line.now false old record {
      forms = old.forms;
      skips = old.skips;
      counts = c.with_line-self-in-Ok.result;
      rows = c.push.new.self;
      scratch = c.read_document.new.scratch;
    } (map field_read c.deref.result.now ∷ []) record {
      forms = refl;
      skips = refl;
      is = bad_full (forms_of old) c.args.line.now (Ok (map field_read c.deref.result.now)) (sym c.is_blank.ensures ∙ c.if-is_blank.false)
          (c.in-Ok.ensures ∙ ap (λ fs. Ok (map field_read fs)) (sym c.deref.ensures.value));
      counts = c.with_line-self-in-Ok.ensures;
      fits = not_last old.counts.0 c.lines.result c.lines.ensures c.lines.type_inv c.if-lines.false;
    }
    (line_full (forms_of old) old.skips (old.counts.0 + 1) c.args.line.now
    (not_last old.counts.0 c.lines.result c.lines.ensures c.lines.type_inv c.if-lines.false)
    (Ok (map field_read c.deref.result.now)) (sym c.is_blank.ensures ∙ c.if-is_blank.false)
    (c.in-Ok.ensures ∙ ap (λ fs. Ok (map field_read fs)) (sym c.deref.ensures.value))) c.in_ok-push-in-Ok.ensures

pub returns-else-self : goal.returns-else-self
returns-else-self c =
    let old = c.args.self.now in
    line_stopped c.args.line.now old record {
      forms = old.forms;
      skips = old.skips;
      counts = old.counts;
      rows = old.rows;
      scratch = c.read_document.new.scratch;
    } (BadLine (c.lines-in-Err-Refused.result + 1) c.in-Err-Refused.refusal)
    (bad_line (c.lines-in-Err-Refused.result + 1) (refusal_read c.in-Err-Refused.refusal))
    (line_full (forms_of old) old.skips (old.counts.0 + 1) c.args.line.now
    (not_last old.counts.0 c.lines.result c.lines.ensures c.lines.type_inv c.if-lines.false)
    (Err (refusal_read c.in-Err-Refused.refusal)) (sym c.is_blank.ensures ∙ c.if-is_blank.false)
    (subst (λ e. IsRefusedAs e (fields_of (forms_of old) c.args.line.now)) c.in-Err-Refused.field-0-is c.in-Err-Refused.ensures)
    ∙ bad_out old.skips (old.counts.0 + 1) (refusal_read c.in-Err-Refused.refusal) c.if-self.false
    ∙ ap (λ n. Err (bad_line (n + 1) (refusal_read c.in-Err-Refused.refusal))) (sym c.lines-in-Err-Refused.ensures)) (λ lines is. is)
