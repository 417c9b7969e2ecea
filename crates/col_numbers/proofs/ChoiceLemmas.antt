-- The codec that is chosen where one more is offered.
use Rattle.std.proofs.Common.{◌≡◌, ℕ, ◌<◌, ◌≤◌, ◌&&◌, nat_le, nat_lt, Bool, true, false, List, [], ◌∷◌, ◌++◌, Option, Some, None, refl, sym, ◌∙◌, ap, arith, inl, inr, cond, subst, map, take, length, get_or, ◌+◌}
use Rattle.std.specs.List.{list_all}
use Rattle.std.proofs.lemmas.Bool.{and_parts, cases_lt}
use Rattle.std.proofs.lemmas.Option.{same_Some, none-some}
use Rattle.std.proofs.lemmas.Bool.Decides.{nat_tests}
use Rattle.col_model.specs.Codecs.{estimate, is_not_below, chosen_before, chosen_codec}
use Rattle.col_model.proofs.TestLaws.{and_regrouped}
use Rattle.col_numbers.specs.declared.serialize.Candidate.{Candidate}
use Rattle.col_numbers.specs.Written.{HasBest}
use Rattle.col_numbers.specs.CodecTypes.{code_of}
use Rattle.col_numbers.specs.declared.codec_type.CodecType.{CodecType}
use Rattle.std.proofs.lemmas.List.{take_more, map-append}

-- no codec of a list has an estimate below e
abbrev none_below : List ℕ → ℕ → List ℕ → Bool
none_below xs e cs = list_all (λ d. is_not_below e (estimate xs d)) cs

and_true : (b : Bool) → (b && true) ≡ b
and_true true = refl
and_true false = refl

none_below-more : (xs : List ℕ) (e c : ℕ) (cs : List ℕ)
    → none_below xs e (cs ++ c ∷ []) ≡ (none_below xs e cs && is_not_below e (estimate xs c))
none_below-more xs e c [] = and_true (is_not_below e (estimate xs c))
none_below-more xs e c (d ∷ ds) =
    ap (λ b. is_not_below e (estimate xs d) && b) (none_below-more xs e c ds)
    ∙ and_regrouped (is_not_below e (estimate xs d)) (none_below xs e ds) (is_not_below e (estimate xs c))

-- one without an estimate changes nothing
pub chosen-none : (xs : List ℕ) (c : ℕ) (cs : List ℕ) → estimate xs c ≡ None → chosen_codec xs (cs ++ c ∷ []) ≡ chosen_codec xs cs
unfolding chosen_codec
chosen-none xs c [] n = ap (chosen_before xs c [] None) n
chosen-none xs c (d ∷ ds) n =
    ap (λ later. chosen_before xs d (ds ++ c ∷ []) later (estimate xs d)) (chosen-none xs c ds n)
    ∙ same_before (estimate xs d)
  where
    same_below : (e : ℕ) → none_below xs e (ds ++ c ∷ []) ≡ none_below xs e ds
    same_below e = none_below-more xs e c ds ∙ ap (λ o. none_below xs e ds && is_not_below e o) n ∙ and_true (none_below xs e ds)

    same_before : (o : Option ℕ) → chosen_before xs d (ds ++ c ∷ []) (chosen_codec xs ds) o ≡ chosen_before xs d ds (chosen_codec xs ds) o
    same_before None = refl
    same_before (Some e) = ap (λ b. cond b (Some d) (chosen_codec xs ds)) (same_below e)

-- what all codecs pass, the chosen one passes
pub chosen-passes : (xs : List ℕ) (P : ℕ → Bool) (cs : List ℕ) (b : ℕ) → list_all P cs ≡ true → chosen_codec xs cs ≡ Some b → P b ≡ true
unfolding chosen_codec
chosen-passes xs P [] b p e = absurd (none-some b e)
chosen-passes xs P (c ∷ cs) b p e = by_estimate (chosen-passes xs P cs b (and_parts (P c) (list_all P cs) p).1) (estimate xs c) e
  where
    Rest : Type 0
    Rest = chosen_codec xs cs ≡ Some b → P b ≡ true

    by_test : Rest → (t : Bool) → cond t (Some c) (chosen_codec xs cs) ≡ Some b → P b ≡ true
    by_test rest true q = subst (λ k. P k ≡ true) (same_Some c b q) (and_parts (P c) (list_all P cs) p).0
    by_test rest false q = rest q

    by_estimate : Rest → (o : Option ℕ) → chosen_before xs c cs (chosen_codec xs cs) o ≡ Some b → P b ≡ true
    by_estimate rest None q = rest q
    by_estimate rest (Some f) q = by_test rest (none_below xs f cs) q

-- the choice between b and a later c with the estimate e
abbrev pub pick : ℕ → ℕ → ℕ → Option ℕ → Option ℕ
pick c e b None = Some c
pick c e b (Some f) = cond (nat_lt e f) (Some c) (Some b)

-- the same, where there may be no earlier codec
abbrev pub over : List ℕ → ℕ → ℕ → Option ℕ → Option ℕ
over xs c e None = Some c
over xs c e (Some b) = pick c e b (estimate xs b)

less : (e f : ℕ) → e < f → nat_lt e f ≡ true
less e f h = grind (arith, nat_tests)

not_less : (e f : ℕ) → f ≤ e → nat_lt e f ≡ false
not_less e f h = grind (arith, nat_tests)

at_most : (e f : ℕ) → f ≤ e → nat_le f e ≡ true
at_most e f h = grind (arith, nat_tests)

not_at_most : (e f : ℕ) → e < f → nat_le f e ≡ false
not_at_most e f h = grind (arith, nat_tests)

less_still : (e f g : ℕ) → e < f → nat_le f g ≡ true → nat_lt e g ≡ true
less_still e f g h k = grind (arith, nat_tests)

-- an estimate below those of all others is chosen
beats : (xs : List ℕ) (c e f : ℕ) (ds : List ℕ) (o : Option ℕ) → chosen_codec xs ds ≡ o → none_below xs f ds ≡ true
    → e < f → over xs c e o ≡ Some c
beats xs c e f ds None q t h = refl
beats xs c e f ds (Some b) q t h = by_estimate (estimate xs b) (chosen-passes xs (λ d. is_not_below f (estimate xs d)) ds b t q)
  where
    by_estimate : (p : Option ℕ) → is_not_below f p ≡ true → pick c e b p ≡ Some c
    by_estimate None k = refl
    by_estimate (Some g) k = ap (λ t. cond t (Some c) (Some b)) (less_still e f g h k)

pub chosen-over : (xs : List ℕ) (c e : ℕ) (cs : List ℕ) → estimate xs c ≡ Some e
    → chosen_codec xs (cs ++ c ∷ []) ≡ over xs c e (chosen_codec xs cs)
unfolding chosen_codec
chosen-over xs c e [] n = ap (chosen_before xs c [] None) n
chosen-over xs c e (d ∷ ds) n = by_estimate (chosen-over xs c e ds n) (estimate xs d) refl
  where
    Later : Type 0
    Later = chosen_codec xs (ds ++ c ∷ []) ≡ over xs c e (chosen_codec xs ds)

    split : (f : ℕ) → none_below xs f (ds ++ c ∷ []) ≡ (none_below xs f ds && nat_le f e)
    split f = none_below-more xs f c ds ∙ ap (λ o. none_below xs f ds && is_not_below f o) n

    by_order : (f : ℕ) → estimate xs d ≡ Some f → none_below xs f ds ≡ true
        → cond (nat_le f e) (Some d) (over xs c e (chosen_codec xs ds)) ≡ pick c e d (estimate xs d)
    by_order f q t = elim (cases_lt e f) [
      | inl h ↦ ap (λ b. cond b (Some d) (over xs c e (chosen_codec xs ds))) (not_at_most e f h)
          ∙ beats xs c e f ds (chosen_codec xs ds) refl t h
          ∙ sym (ap (pick c e d) q ∙ ap (λ b. cond b (Some c) (Some d)) (less e f h))
      | inr h ↦ ap (λ b. cond b (Some d) (over xs c e (chosen_codec xs ds))) (at_most e f h)
          ∙ sym (ap (pick c e d) q ∙ ap (λ b. cond b (Some c) (Some d)) (not_less e f h))
    ]

    by_test : (f : ℕ) (t : Bool) → estimate xs d ≡ Some f → none_below xs f ds ≡ t
        → cond (t && nat_le f e) (Some d) (over xs c e (chosen_codec xs ds))
        ≡ over xs c e (cond t (Some d) (chosen_codec xs ds))
    by_test f true q t = by_order f q t
    by_test f false q t = refl

    by_estimate : Later → (o : Option ℕ) → estimate xs d ≡ o
        → chosen_before xs d (ds ++ c ∷ []) (chosen_codec xs (ds ++ c ∷ [])) (estimate xs d)
        ≡ over xs c e (chosen_before xs d ds (chosen_codec xs ds) (estimate xs d))
    by_estimate later None q =
        ap (chosen_before xs d (ds ++ c ∷ []) (chosen_codec xs (ds ++ c ∷ []))) q ∙ later
        ∙ ap (over xs c e) (sym (ap (chosen_before xs d ds (chosen_codec xs ds)) q))
    by_estimate later (Some f) q =
        ap (chosen_before xs d (ds ++ c ∷ []) (chosen_codec xs (ds ++ c ∷ []))) q
        ∙ ap (cond (none_below xs f (ds ++ c ∷ [])) (Some d)) later
        ∙ ap (λ t. cond t (Some d) (over xs c e (chosen_codec xs ds))) (split f)
        ∙ by_test f (none_below xs f ds) q refl
        ∙ ap (over xs c e) (sym (ap (chosen_before xs d ds (chosen_codec xs ds)) q))

-- a codec with an estimate is chosen where none was before it
pub best-none : (xs codecs : List ℕ) (c e : ℕ) → estimate xs c ≡ Some e → chosen_codec xs codecs ≡ None
    → chosen_codec xs (codecs ++ c ∷ []) ≡ Some c
best-none xs codecs c e n q = chosen-over xs c e codecs n ∙ ap (over xs c e) q

-- a codec with a smaller estimate is chosen in place of the one before it
pub best-less : (xs codecs : List ℕ) (c e b f : ℕ) → estimate xs c ≡ Some e → chosen_codec xs codecs ≡ Some b
    → estimate xs b ≡ Some f → e < f → chosen_codec xs (codecs ++ c ∷ []) ≡ Some c
best-less xs codecs c e b f n q m h =
    chosen-over xs c e codecs n ∙ ap (over xs c e) q ∙ ap (pick c e b) m
    ∙ ap (λ t. cond t (Some c) (Some b)) (less e f h)

-- a codec whose estimate isn't smaller leaves the one that was chosen before it
pub best-not_less : (xs codecs : List ℕ) (c e b f : ℕ) → estimate xs c ≡ Some e → chosen_codec xs codecs ≡ Some b
    → estimate xs b ≡ Some f → f ≤ e → chosen_codec xs (codecs ++ c ∷ []) ≡ Some b
best-not_less xs codecs c e b f n q m h =
    chosen-over xs c e codecs n ∙ ap (over xs c e) q ∙ ap (pick c e b) m
    ∙ ap (λ t. cond t (Some c) (Some b)) (not_less e f h)

-- one without an estimate leaves the best
pub best-same : (xs codecs : List ℕ) (c : ℕ) (found : Option Candidate) → None ≡ estimate xs c
    → HasBest xs codecs found → HasBest xs (codecs ++ c ∷ []) found
best-same xs codecs c None n best = chosen-none xs c codecs (sym n) ∙ best
best-same xs codecs c (Some held) n best = (chosen-none xs c codecs (sym n) ∙ best.0, best.1)

-- the codes of the codecs up to one more
pub codes-more : (cs : List CodecType) (i code : ℕ) (d : CodecType) → i < length cs → code ≡ code_of (get_or cs i d)
    → map code_of (take i cs) ++ code ∷ [] ≡ map code_of (take (i + 1) cs)
codes-more cs i code d within e =
    ap (λ k. map code_of (take i cs) ++ k ∷ []) e
    ∙ sym (ap (map code_of) (take_more cs i d within) ∙ map-append code_of (take i cs) (get_or cs i d ∷ []))
