-- Walks: what was found, with a fact on it, and what is left.
use Rattle.std.proofs.Common.{◌≡◌, ◌&&◌, Bool, true, List, [], ◌∷◌, ◌++◌, append_assoc, append-nil, sym, ◌∙◌, ap, subst}
use Rattle.std.specs.List.{list_all}
use Rattle.std.proofs.lemmas.Bool.{and_parts}
use Rattle.std.proofs.lemmas.List.Folds.{list_all-append}

-- what was found, of which a fact holds, and what is left are all
pub record Walked {T : Type 0} (P : List T → Type 0) (left all : List T) : Type 0 where
  pub found : List T
  pub holds : P found
  pub whole : found ++ left ≡ all

-- one more item found leaves one less
pub walked-more : {T : Type 0} (P Q : List T → Type 0) (left rest all : List T) (x : T) (w : Walked P left all)
    → left ≡ x ∷ rest → Q (w.found ++ x ∷ []) → Walked Q rest all
walked-more P Q left rest all x w e holds = record {
  found = w.found ++ x ∷ [];
  holds = holds;
  whole = append_assoc w.found (x ∷ []) rest ∙ ap (λ ys. w.found ++ ys) (sym e) ∙ w.whole;
}

-- where nothing is left, the fact holds of all
pub walked-all : {T : Type 0} (P : List T → Type 0) (left all : List T) → Walked P left all → left ≡ [] → P all
walked-all P left all w e = subst P (sym (append-nil w.found) ∙ ap (λ ys. w.found ++ ys) (sym e) ∙ w.whole) w.holds

-- an item that is left passes what all pass
pub walked-passes : {T : Type 0} (p : T → Bool) (P : List T → Type 0) (left rest all : List T) (x : T)
    → Walked P left all → left ≡ x ∷ rest → list_all p all ≡ true → p x ≡ true
walked-passes p P left rest all x w e passed =
    let whole : list_all p (w.found ++ x ∷ rest) ≡ true =
    ap (λ ys. list_all p (w.found ++ ys)) (sym e) ∙ ap (list_all p) w.whole ∙ passed in
    (and_parts (p x) (list_all p rest)
    ((and_parts (list_all p w.found) (p x && list_all p rest)
    (sym (list_all-append p w.found (x ∷ rest)) ∙ whole)).1)).0
