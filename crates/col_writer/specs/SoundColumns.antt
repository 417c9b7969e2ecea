-- Columns by name that are sound.
use Rattle.std.specs.Prelude.{IsTrue, List, String, string_bytes}
use Rattle.std.specs.List.{AllByRecursion}
use Rattle.std.specs.Str.{is_utf8}
use Rattle.std.specs.declared.alloc.Global.{Global}

-- each name is UTF-8, and what it is the name of has a property
abbrev pub AreNamed : {X : Type 0} → (X → Type 0) → List (String Global × X) → Type 0
AreNamed {X} P es =
    AllByRecursion (λ (p : String Global × X). IsTrue (is_utf8 (string_bytes p.0)) × P p.1) es
