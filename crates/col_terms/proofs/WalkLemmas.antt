-- The terms that a walk has still to give ascend, since those of its dictionary do.
use Rattle.std.proofs.Common.{◌≡◌, ℕ, zero, suc, ◌+◌, ◌-◌, Bool, true, List, [], ◌∷◌, map, take, drop, refl, ap, ◌∙◌}
use Rattle.std.specs.List.{enumerate_from}
use Rattle.std.proofs.lemmas.Bool.{and_parts}
use Rattle.col_common.specs.Ascending.{is_ascending, is_before}
use Rattle.col_model.proofs.ListLaws.{ascending-tail}
use Rattle.col_terms.specs.Streams.{OrdTerm, numbered, walk_between, IsWalk}
use Rattle.col_terms.specs.TermTable.{terms_of}
use Rattle.col_terms.proofs.TableLemmas.{table_ascending}

-- terms without their ordinals are the terms
pub numbered-terms : (n : ℕ) (ts : List (List ℕ)) → map (λ (p : OrdTerm). p.1) (enumerate_from n ts) ≡ ts
numbered-terms n [] = refl
numbered-terms n (t ∷ ts) = ap (λ r. t ∷ r) (numbered-terms (n + 1) ts)

abbrev texts : List OrdTerm → List (List ℕ)
texts ps = map (λ (p : OrdTerm). p.1) ps

dropped-ascends : (n : ℕ) (ps : List OrdTerm) → is_ascending (texts ps) ≡ true → is_ascending (texts (drop n ps)) ≡ true
dropped-ascends zero ps e = e
dropped-ascends (suc n) [] e = refl
dropped-ascends (suc n) (p ∷ ps) e = dropped-ascends n ps (ascending-tail p.1 (texts ps) e)

taken-ascends : (n : ℕ) (ps : List OrdTerm) → is_ascending (texts ps) ≡ true → is_ascending (texts (take n ps)) ≡ true
taken-ascends zero ps e = refl
taken-ascends (suc n) [] e = refl
taken-ascends (suc zero) (p ∷ ps) e = refl
taken-ascends (suc (suc n)) (p ∷ []) e = refl
taken-ascends (suc (suc n)) (p ∷ q ∷ ps) e =
    let parts = and_parts (is_before p.1 q.1) (is_ascending (texts (q ∷ ps))) e in
    rw (parts.0, taken-ascends (suc n) (q ∷ ps) parts.1) refl

-- the terms that a walk has still to give ascend
pub walk-ascends : (bytes : List ℕ) (n next upto : ℕ) (on : Bool) (key : List ℕ) → IsWalk bytes n next upto on key
    → is_ascending (texts (walk_between bytes next upto on key).left) ≡ true
walk-ascends bytes n next upto on key h =
    let all : is_ascending (texts (numbered (terms_of bytes))) ≡ true =
    ap is_ascending (numbered-terms 0 (terms_of bytes)) ∙ table_ascending bytes n h.table in
    taken-ascends (upto - next) (drop next (numbered (terms_of bytes))) (dropped-ascends next (numbered (terms_of bytes)) all)
