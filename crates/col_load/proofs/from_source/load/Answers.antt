use Rattle.std.proofs.Common.{map}
use Rattle.std.proofs.lemmas.Result.{err_from_is_err_and}
use Rattle.col_documents.specs.Forms.{named_form}
use Rattle.col_load.proofs.SourceLemmas.{source_stops, source_loaded, source_unwritten}
use Rattle.col_load.proofs.from_source.load.Goals as goal

pub returns-in_err-take_source : goal.returns-in_err-take_source
returns-in_err-take_source g c =
    let p = err_from_is_err_and c.from_residual.result c.from_residual.ensures.1 in
    rw (p.1, p.2) (source_stops _ _ _ _ (map named_form c.args.forms.now) c.args.skips c.new-loader.result c.take_source.new.loader
    c.new-loader.ensures.forms c.new-loader.ensures.skips _ _ c.in_err-take_source.ensures)

pub returns-in_err-write : goal.returns-in_err-write
returns-in_err-write g c =
    let p = err_from_is_err_and c.from_residual-in_err-write.result c.from_residual-in_err-write.ensures.1 in
    rw (p.1, p.2) (source_unwritten _ _ _ _ (map named_form c.args.forms.now) c.args.skips c.new-loader.result c.take_source.new.loader
    c.new-loader.ensures.forms c.new-loader.ensures.skips c.in_ok-take_source.ensures _ _ _ c.in_err-write.ensures)

pub returns : goal.returns
returns g c =
    source_loaded _ _ _ _ (map named_form c.args.forms.now) c.args.skips c.new-loader.result c.take_source.new.loader
    c.new-loader.ensures.forms c.new-loader.ensures.skips c.in_ok-take_source.ensures _ _ c.in_ok-write.ensures
