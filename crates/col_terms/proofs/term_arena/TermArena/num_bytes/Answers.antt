use Rattle.std.proofs.Common.{◌≡◌, length, ap, ◌∙◌, arith}
use Rattle.col_terms.specs.Building.{counted_bytes}
use Rattle.col_terms.specs.TermTable.{terms_by}
use Rattle.col_terms.proofs.ArenaLemmas.{holds-counted}
use Rattle.col_terms.proofs.term_arena.TermArena.num_bytes.Goals as goal

pub returns : goal.returns
returns c =
    let a = c.self.inside in
    let n : c.len.result ≡ length a.bytes.items = omega (arith, c.len.ensures) in
    n ∙ holds-counted a.bytes.items a.ends.items (terms_by a.ends.items a.bytes.items) c.self.invariant
    (omega (arith, c.len.ensures)) ∙ ap counted_bytes c.self.view_is
