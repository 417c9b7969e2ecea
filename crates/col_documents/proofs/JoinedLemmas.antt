-- Fields of parts that are read one after another.
use Rattle.std.proofs.Common.{◌≡◌, ◌+◌, ◌<◌, ◌≤◌, ℕ, zero, suc, List, [], ◌∷◌, ◌++◌, map, drop, length, slice_index_or, Ok, Err, refl, sym, ap, ◌∙◌, arith}
use Rattle.std.proofs.lemmas.List.{append_assoc, append-nil}
use Rattle.col_documents.specs.Documents.{Field, Fields, both}
use Rattle.col_documents.specs.Read.{field_read, IsRefusedAs}
use Rattle.col_documents.specs.declared.field.Field as fields
use Rattle.col_documents.specs.declared.refusal.DocumentError.{DocumentError}
use Rattle.col_documents.specs.declared.refusal.DocumentError.TheVariants.{OutOfMemory, Refused}

-- the fields of all parts, or the first refusal
abbrev pub joined : List Fields → Fields
joined [] = Ok []
joined (r ∷ rs) = both r (joined rs)

-- ---- parts of the items of a list

module _ {X : Type 0} (part : X → Fields) where
  -- what is left from a place on
  abbrev pub left : List X → ℕ → Fields
  left xs i = joined (map part (drop i xs))

  step : (xs : List X) (i : ℕ) (x : X) → i < length xs → x ≡ slice_index_or xs i x → left xs i ≡ both (part x) (left xs (suc i))
  step [] i x h e = absurd (omega arith)
  step (y ∷ xs) zero x h e = ap (λ y. both (part y) (joined (map part xs))) (sym e)
  step (y ∷ xs) (suc i) x h e = step xs i x (omega arith) e

  ended : (xs : List X) (i : ℕ) → length xs ≤ i → left xs i ≡ Ok []
  ended [] zero h = refl
  ended [] (suc i) h = refl
  ended (x ∷ xs) zero h = absurd (omega arith)
  ended (x ∷ xs) (suc i) h = ended xs i (omega arith)

  -- The fields of the parts before a place were put.
  pub record HavePut (xs : List X) (i : ℕ) (old new : List fields.Field) : Type 0 where
    pub done : List Field
    pub read : left xs 0 ≡ both (Ok done) (left xs i)
    pub put : map field_read new ≡ map field_read old ++ done

  again : (r : Fields) → r ≡ both (Ok []) r
  again (Ok fs) = refl
  again (Err e) = refl

  pub none_put : (xs : List X) (old : List fields.Field) → HavePut xs 0 old old
  none_put xs old = record { done = []; read = again (left xs 0); put = sym (append-nil (map field_read old)) }

  -- one part more
  pub more_put : (xs : List X) (i : ℕ) (x : X) (old mid new : List fields.Field) → i < length xs → x ≡ slice_index_or xs i x
      → HavePut xs i old mid → (fs : List Field) × (part x ≡ Ok fs) × (map field_read new ≡ map field_read mid ++ fs)
      → HavePut xs (i + 1) old new
  more_put xs i x old mid new h e s (fs, is, grown) =
      let next : suc i ≡ i + 1 = omega arith in
      record {
        done = s.done ++ fs;
        read = s.read ∙ ap (both (Ok s.done)) (step xs i x h e ∙ ap (λ r. both r (left xs (suc i))) is)
            ∙ regrouped s.done fs (left xs (suc i)) ∙ ap (λ k. both (Ok (s.done ++ fs)) (left xs k)) next;
        put = grown ∙ ap (λ gs. gs ++ fs) s.put ∙ append_assoc (map field_read old) s.done fs;
      }
    where
      regrouped : (fs gs : List Field) (r : Fields) → both (Ok fs) (both (Ok gs) r) ≡ both (Ok (fs ++ gs)) r
      regrouped fs gs (Ok hs) = ap Ok (sym (append_assoc fs gs hs))
      regrouped fs gs (Err e) = refl

  -- all were put
  pub all_put : (xs : List X) (i : ℕ) (old new : List fields.Field) → length xs ≤ i → HavePut xs i old new
      → (fs : List Field) × (left xs 0 ≡ Ok fs) × (map field_read new ≡ map field_read old ++ fs)
  all_put xs i old new h s =
      (s.done, s.read ∙ ap (both (Ok s.done)) (ended xs i h) ∙ ap Ok (append-nil s.done), s.put)

  -- a part that is refused
  pub part_refused : (xs : List X) (i : ℕ) (x : X) (old mid : List fields.Field) (e : DocumentError) → i < length xs
      → x ≡ slice_index_or xs i x → HavePut xs i old mid → IsRefusedAs e (part x) → IsRefusedAs e (left xs 0)
  part_refused xs i x old mid OutOfMemory h e s r = tt
  part_refused xs i x old mid (Refused why) h e s r =
      s.read ∙ ap (both (Ok s.done)) (step xs i x h e ∙ ap (λ p. both p (left xs (suc i))) r)
