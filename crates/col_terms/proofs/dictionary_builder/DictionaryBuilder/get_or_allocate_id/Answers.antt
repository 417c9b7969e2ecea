use Rattle.std.proofs.Common.{sym, ◌∙◌}
use Rattle.col_terms.proofs.PlaceLemmas.{allocates-known}
use Rattle.col_terms.proofs.dictionary_builder.DictionaryBuilder.get_or_allocate_id.Goals as goal

pub returns-in-Some-clause-ok : goal.returns-in-Some-clause-ok
returns-in-Some-clause-ok c = allocates-known c.args.self.now c.args.term.now c.in-Some.id (sym c.known_id-known.ensures ∙ c.in-Some.is)
