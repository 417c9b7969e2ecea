-- The types that are required of slots. States docs/RULES.md, Merged tables.
use Rattle.std.specs.Prelude.{◌≡◌, Bool, true, false, not, List, [], Option, Some, None, option_map, Result, Ok, Err, if◌then◌else◌}
use Rattle.std.specs.BTreeMap.{BTreeMap, get}
use Rattle.std.specs.List.{AllByRecursion}
use Rattle.col_common.specs.declared.error.ColumnarError.{ColumnarError}
use Rattle.col_common.specs.declared.error.ColumnarError.TheVariants.{OutOfMemory, BadName, RequiredConflict}
use Rattle.col_model.specs.Category.{Slot, slot_cmp, same_slot}
use Rattle.col_model.specs.ColumnType as types
use Rattle.col_model.specs.Keys.{is_name}
use Rattle.col_model.specs.Merge.{Required, required_type, required_refusal}
use Rattle.col_model.specs.Refusal.{bad_name, required_conflict}
use Rattle.col_types.specs.Kinds.{kind_of}
use Rattle.col_types.specs.declared.column_type.ColumnType.{ColumnType}

-- the type that a map has of a slot
abbrev pub known_type : BTreeMap Slot ColumnType → Slot → Option types.ColumnType
known_type known q = option_map kind_of (get slot_cmp known q)

-- another type is required
abbrev pub conflicts : Option types.ColumnType → types.ColumnType → Bool
conflicts None t = false
conflicts (Some u) t = not (types.same_type u t)

-- the types are one, or the answer is a conflict
abbrev pub Agrees : Result (Unit {0}) ColumnarError → types.ColumnType → types.ColumnType → Type 0
Agrees (Ok done) u t = conflicts (Some u) t ≡ false
Agrees (Err e) u t = (e ≡ RequiredConflict) × (conflicts (Some u) t ≡ true)

-- the type that is required, or this one of this slot
abbrev pub or_type : Option types.ColumnType → Bool → types.ColumnType → Option types.ColumnType
or_type None here t = if here then Some t else None
or_type (Some u) here t = Some u

-- a type was required of a slot, or another one is
abbrev pub Requires : BTreeMap Slot ColumnType → BTreeMap Slot ColumnType →
    Result (Unit {0}) ColumnarError → Slot → types.ColumnType → Type 0
Requires old new (Ok done) slot t = (conflicts (known_type old slot) t ≡ false)
    × ((q : Slot) → known_type new q ≡ or_type (known_type old q) (same_slot slot q) t)
Requires old new (Err OutOfMemory) slot t = Unit {0}
Requires old new (Err RequiredConflict) slot t = conflicts (known_type old slot) t ≡ true
Requires old new (Err _) slot t = ⊥

-- The items refuse nothing, their names are names of columns, and the map has the type that is
-- required of each slot.
pub record AreTypes (known : BTreeMap Slot ColumnType) (required : List Required) : Type 0 where
  pub accepted : required_refusal [] required ≡ Ok tt
  pub names : AllByRecursion (λ r. is_name r.name ≡ true) required
  pub types_are : (q : Slot) → known_type known q ≡ required_type required q

-- the types that are required, or the first refusal
abbrev pub RequiresTypes : Result (BTreeMap Slot ColumnType) ColumnarError → List Required → Type 0
RequiresTypes (Ok known) required = AreTypes known required
RequiresTypes (Err OutOfMemory) required = Unit {0}
RequiresTypes (Err BadName) required = required_refusal [] required ≡ Err bad_name
RequiresTypes (Err RequiredConflict) required = required_refusal [] required ≡ Err required_conflict
RequiresTypes (Err _) required = ⊥
