use Rattle.std.proofs.Common.{arith, refl, ◌-◌, ◌+◌}
use Rattle.col_gen.proofs.AddedLemmas.{docs-start, docs-more, docs-none}
use Rattle.col_gen.proofs.documents.push_documents.Goals as goal

pub loop-document-init : goal.loop-document-init
loop-document-init c = docs-start _ 0 (c.args.documents - 0) c.args.documents c.args.draws.now (omega arith)

pub loop-document-preserved : goal.loop-document-preserved
loop-document-preserved c =
    docs-more _ _ _ _ c.loop-document.document _ (c.args.documents - c.loop-document.document)
    (c.args.documents - (c.loop-document.document + 1)) c.loop-document.draws _ (omega arith) refl
    c.loop-document.invariant c.in_ok-push_document.ensures

pub returns : goal.returns
returns c = docs-none _ _ _ c.loop-document.document (c.args.documents - c.loop-document.document) _ (omega arith) c.loop-document.invariant
