-- One record of a text, byte by byte.
use Rattle.std.proofs.Common.{◌≡◌, ◌∙◌, ◌≤◌, ◌-◌, ◌==◌, ◌||◌, ℕ, Bool, true, false, cond, List, [], ◌∷◌, ◌++◌, length, Some, None, refl, sym, ap, subst, arith}
use Rattle.std.specs.Prelude.{Option}
use Rattle.std.proofs.lemmas.Bool.{false≢true}
use Rattle.csv.specs.Machine.{Read, ends_at_end, field_after, fields_after, in_field, is_end, next_record, step}
use Rattle.csv.specs.Reading.{default_config}
use Rattle.csv.specs.declared.parser.Action.{Action}
use Rattle.csv.specs.declared.parser.Action.TheVariants as act
use Rattle.csv.specs.declared.parser.State.{State}
use Rattle.csv.specs.declared.parser.State.TheVariants as st

-- where the action ends a record, the state stands between two records
abbrev Ends : State × Action → Type 0
Ends p = is_end p.1 ≡ true → ends_at_end p.0 ≡ false

-- a choice whose first way ends no record
ends-else : (b : Bool) (p q : State × Action) → is_end p.1 ≡ false → Ends q → Ends (cond b p q)
ends-else true p q e f = λ h. absurd (false≢true (sym e ∙ h))
ends-else false p q e f = f

-- a byte within a field
ends-field : (c : ℕ) → Ends (in_field default_config c)
ends-field c = ends-else (c == 44) _ _ refl (by ((c == 13) || (c == 10)) (c == 13))
  where
    by : (b d : Bool) → Ends (cond b (cond d st.AfterCr st.StartRecord, act.EndRecord) (st.InField, act.Copy))
    by true true = λ h. refl
    by true false = λ h. refl
    by false d = λ h. absurd (false≢true h)

-- a byte at the start of a field
ends-start : (c : ℕ) → Ends (step default_config st.StartField c)
ends-start c = ends-else (c == 34) _ _ refl (ends-field c)

-- a byte at the start of a record
ends-first : (c : ℕ) → Ends (step default_config st.StartRecord c)
ends-first c = ends-else ((c == 13) || (c == 10)) _ _ refl (ends-start c)

-- a byte in any state
ends-step : (s : State) (c : ℕ) → Ends (step default_config s c)
ends-step st.StartRecord c = ends-first c
ends-step st.StartField c = ends-start c
ends-step st.InField c = ends-field c
ends-step st.InQuoted c = ends-else (c == 34) _ _ refl (λ h. absurd (false≢true h))
ends-step st.InEscape c = λ h. absurd (false≢true h)
ends-step st.AfterQuote c = ends-else (c == 34) _ _ refl (ends-field c)
ends-step st.InComment c = ends-else (c == 10) _ _ refl (λ h. absurd (false≢true h))
ends-step st.AfterCr c = ends-else (c == 10) _ _ refl (ends-first c)

-- what is read stands between two records, in front of fewer bytes
pub record IsRead (xs : List ℕ) (p : Read) : Type 0 where
  pub between : ends_at_end p.1 ≡ false
  pub shorter : length p.2 ≤ length xs - 1

abbrev or_read : Read → Option Read → Read
or_read d None = d
or_read d (Some p) = p

-- what was read, out of an option
same-read : (p q : Read) → Some p ≡ Some q → p ≡ q
same-read p q e = ap (or_read p) e

-- a record that is read
pub read-is : (s : State) (fields : List (List ℕ)) (field xs : List ℕ) (p : Read)
    → next_record default_config s fields field xs ≡ Some p → IsRead xs p
unfolding next_record
read-is s fields field [] p e = by (ends_at_end s) e
  where
    by : (b : Bool) → ◌≡◌ {A = Option Read} (cond b (Some (fields ++ (field ∷ []), st.StartRecord, [])) None) (Some p) → IsRead [] p
    by true e = subst (IsRead []) (same-read (fields ++ (field ∷ []), st.StartRecord, []) p e)
        (record { between = refl; shorter = omega arith })
    by false e = absurd (cc)
read-is s fields field (c ∷ rest) p e =
    by (is_end (step default_config s c).1) refl e
    (read-is (step default_config s c).0 (fields_after (step default_config s c).1 fields field)
    (field_after (step default_config s c).1 c field) rest p)
  where
    by : (b : Bool) → is_end (step default_config s c).1 ≡ b → ◌≡◌ {A = Option Read}
        (cond b (Some (fields_after (step default_config s c).1 fields field, (step default_config s c).0, rest))
        (next_record default_config (step default_config s c).0 (fields_after (step default_config s c).1 fields field)
        (field_after (step default_config s c).1 c field) rest)) (Some p)
        → (next_record default_config (step default_config s c).0 (fields_after (step default_config s c).1 fields field)
        (field_after (step default_config s c).1 c field) rest ≡ Some p → IsRead rest p) → IsRead (c ∷ rest) p
    by true is e later =
        subst (IsRead (c ∷ rest))
        (same-read (fields_after (step default_config s c).1 fields field, (step default_config s c).0, rest) p e)
        (record { between = ends-step s c is; shorter = omega arith })
    by false is e later =
        let h = later e in record { between = h.between; shorter = omega (arith, h.shorter) }

-- nothing is read of no bytes between two records
pub nothing-read : (s : State) → ends_at_end s ≡ false → next_record default_config s [] [] [] ≡ None
unfolding next_record
nothing-read s e = ap (λ b. cond b (Some ([] ++ ([] ∷ []), st.StartRecord, [])) None) e
