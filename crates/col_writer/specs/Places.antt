-- Places of names among columns.
use Rattle.std.specs.Prelude.{◌≡◌, ℕ, false, List, map, Option, Some, None, slice_get, String, bytes_eq, string_bytes}
use Rattle.std.specs.BTreeMap.{BTreeMap, get_by_text}
use Rattle.std.specs.List.{list_any, IsDistinct}
use Rattle.std.specs.declared.alloc.Global.{Global}
use Rattle.col_writer.specs.Changes.{ByName}

-- the names of columns
abbrev pub names_of : {X : Type 0} → ByName X → List (List ℕ)
names_of es = map (λ p. string_bytes p.0) es

-- the place of a name, or none where it isn't there
abbrev pub IsPlaceOf : List (List ℕ) → List ℕ → Option ℕ → Type 0
IsPlaceOf names name None = list_any (bytes_eq name) names ≡ false
IsPlaceOf names name (Some at) = slice_get names at ≡ Some name

-- names that differ, and a map that has the place of each
pub record ArePlaced (names : List (List ℕ)) (places : BTreeMap (String Global) ℕ) : Type 0 where
  pub differ : IsDistinct bytes_eq names
  pub placed : (name : List ℕ) → IsPlaceOf names name (get_by_text places name)
