-- Where walks over terms stand.
use Rattle.std.specs.Prelude.{ℕ, List, [], ◌∷◌, Option, Some, None}
use Rattle.std.specs.Option.{option_map_or}
use Rattle.col_terms.specs.Streams.{OrdTerm, TermStream}

-- the term where the walk stands; the empty key where it stands on none
abbrev pub key_at : TermStream → List ℕ
key_at s = option_map_or (λ p. p.1) s.current []

-- its ordinal
abbrev pub ord_at : TermStream → ℕ
ord_at s = option_map_or (λ p. p.0) s.current 0

-- the term and its ordinal, as a list
abbrev pub here_of : Option OrdTerm → List OrdTerm
here_of None = []
here_of (Some p) = p ∷ []

-- the terms from there on
abbrev pub from_here : Option OrdTerm → List OrdTerm → List OrdTerm
from_here None left = left
from_here (Some p) left = p ∷ left
