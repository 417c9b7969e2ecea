-- Ids that stand apart, under the terms that they are of.
use Rattle.std.proofs.Common.{◌≡◌, ◌≢◌, ℕ, ◌<◌, true, [], Some, length, get_or, sym, ◌∙◌, ap, subst}
use Rattle.std.specs.BTreeMap.{Updates}
use Rattle.std.specs.Cmp.Lexicographic.{slice_cmp}
use Rattle.std.specs.Map.{KeepsOthers}
use Rattle.std.specs.Ordering.{nat_cmp, is_eq}
use Rattle.std.specs.Prelude.{List}
use Rattle.std.specs.declared.alloc.Global.{Global}
use Rattle.std.specs.declared.vec.Vec.{Vec}
use Rattle.std.proofs.lemmas.Bool.{false_from_ne_true}
use Rattle.std.proofs.lemmas.Cmp.{nat_list_cmp_total, eq_by_cmp_equiv}
use Rattle.std.proofs.lemmas.Map.Lookups.{exact_bytes}
use Rattle.col_model.proofs.OrderingLaws.{equal_of}
use Rattle.col_terms.specs.Hashing.{IdsApart, id_apart, IsNotApart, KeepsOtherIds}

-- where an id stands under a term that has another term or none, neither does the term's own
pub not_apart-other : (ts : List (List ℕ)) (m : IdsApart) (t : List ℕ) (found : ℕ) → Some found ≡ id_apart m t
    → (found < length ts → get_or ts found [] ≢ t) → IsNotApart ts m t
not_apart-other ts m t found is other id below there same =
    let here : found ≡ id = let e = is ∙ there in cc in
    other (subst (λ k. k < length ts) (sym here) below) (ap (λ k. get_or ts k []) here ∙ same)

same_texts : (xs ys : List ℕ) → is_eq (slice_cmp nat_cmp xs ys) ≡ true → xs ≡ ys
same_texts xs ys e = exact_bytes xs ys (equal_of (slice_cmp nat_cmp xs ys) e)

module _ (t : List ℕ) (key : Vec ℕ Global) (id : ℕ) (m n : IdsApart)
    (u : Updates (λ x y. slice_cmp nat_cmp x.items y.items) m n key (Some id)) (e : key.items ≡ t) where
  -- under the bytes of the key stands what was put there
  pub apart-set : id_apart n t ≡ Some id
  apart-set = subst (λ bs. id_apart n bs ≡ Some id) e u.1

  -- and under others what stood there
  pub apart-others : KeepsOtherIds t m n
  unfolding KeepsOthers
  apart-others other differs =
      u.3 (λ k. is_eq (slice_cmp nat_cmp other k.items))
      (λ x y. (eq_by_cmp_equiv nat_list_cmp_total).congr other x.items y.items)
      (λ k here. false_from_ne_true (is_eq (slice_cmp nat_cmp other k.items))
      (λ there. differs (same_texts other k.items there ∙ sym (same_texts key.items k.items here) ∙ e)))
