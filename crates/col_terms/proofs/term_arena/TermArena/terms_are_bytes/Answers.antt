use Rattle.std.proofs.Common.{sym, ap, ◌∙◌}
use Rattle.std.specs.List.{list_all}
use Rattle.col_model.specs.Sound.{are_bytes}
use Rattle.col_terms.specs.TermTable.{terms_by}
use Rattle.col_terms.proofs.ArenaLemmas.{held-bytes}
use Rattle.col_terms.proofs.term_arena.TermArena.terms_are_bytes.Goals as goal

pub returns : goal.returns
returns c =
    let a = c.self.inside in
    ap (list_all are_bytes) (sym c.self.view_is)
    ∙ held-bytes a.bytes.items a.ends.items (terms_by a.ends.items a.bytes.items) c.self.invariant
    (ap are_bytes (sym c.deref.ensures.value) ∙ c.bytes_fit.ensures)
