use Rattle.col_documents.proofs.FieldLemmas.{field_put}
use Rattle.col_documents.proofs.document.push_field.Goals as goal

pub returns-in_ok-push-in-Ok : goal.returns-in_ok-push-in-Ok
returns-in_ok-push-in-Ok c =
    field_put c.args.path c.in-Ok.value c.args.taken c.args.fields.now.items c.push.new.self.items c.in-Ok.is
    c.in_ok-push-in-Ok.ensures.items
