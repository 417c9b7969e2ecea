-- Sets of documents.
use Rattle.std.proofs.Common.{◌≡◌, ℕ, ◌-◌, ◌*◌, ◌/◌, ◌%◌, ◌<◌, Bool, true, false, cond, not, ◌&&◌, ◌||◌, eqb, List, [], length, replicate, get_or, Result, IfOk, refl, sym, ap, ◌∙◌, subst, arith}
use Rattle.std.specs.List.{range_with_len, filter, list_any}
use Rattle.std.specs.declared.alloc.AllocError.{AllocError}
use Rattle.std.specs.Int.{div_ceil, bit_at}
use Rattle.std.proofs.lemmas.List.{length-replicate, get_or-replicate}
use Rattle.std.proofs.lemmas.Nat.Bits.{bit_at-zero}
use Rattle.col_common.specs.Flags.{flag_at, flags_of, members, members_from}
use Rattle.col_common.proofs.FlagLemmas.{length-flags, flag-is}
use Rattle.col_values.proofs.HitLemmas.{rows_none, rows_same}
use Rattle.col_query.specs.Sets.{docs_where, is_kept, kept_of, turn_over, AreBits, AreDocs, IsSetOf}
use Rattle.col_query.specs.declared.doc_set.Docs.{Docs}
use Rattle.col_query.specs.declared.doc_set.Docs.TheVariants as docs
use Rattle.col_query.specs.declared.doc_set.DocSet.{DocSet}
use Rattle.col_query.specs.declared.lists.Kept.{Kept}
use Rattle.col_query.proofs.PassLemmas.{pass_both, among_pass}

-- tests that agree below n leave the same documents
pub same_docs : (test other : ℕ → Bool) (n : ℕ) → ((d : ℕ) → d < n → test d ≡ other d) → docs_where test n ≡ docs_where other n
same_docs test other n h = rows_same test other 0 n (λ d p q. h d (omega arith))

-- where no document passes, there is none
pub no_docs : (test : ℕ → Bool) (n : ℕ) → ((d : ℕ) → d < n → test d ≡ false) → docs_where test n ≡ []
no_docs test n h = rows_none test 0 n (λ d p q. h d (omega arith))

-- a document is among those that pass exactly if it passes
pub among_docs : (test : ℕ → Bool) (n d : ℕ) → d < n → list_any (λ k. eqb d k) (docs_where test n) ≡ test d
among_docs test n d h = among_pass test 0 n d (omega arith) (omega arith)

-- a test that no document of an empty list passes
pub none_among : (test : ℕ → Bool) (n d : ℕ) → [] ≡ docs_where test n → d < n → test d ≡ false
none_among test n d e h = sym (among_docs test n d h) ∙ ap (λ xs. list_any (λ k. eqb d k) xs) (sym e)

-- documents in either form, by a test that agrees
pub docs_agree : (n : ℕ) (test other : ℕ → Bool) (s : Docs) → ((d : ℕ) → d < n → test d ≡ other d) → AreDocs n test s → AreDocs n other s
docs_agree n test other (docs.List found) h e = e ∙ same_docs test other n h
docs_agree n test other (docs.Bits words) h b = record { room = b.room; bits = λ d p. b.bits d p ∙ h d p }

-- the bits of words that are set, as documents
pub docs_of_bits : (n : ℕ) (test : ℕ → Bool) (words : List ℕ) → AreBits n test words → members (flags_of words n) ≡ docs_where test n
unfolding members_from
docs_of_bits n test words b =
    let long : length (flags_of words n) - 0 ≡ n = omega (arith, length-flags words n) in
    ap (λ k. filter (λ d. get_or (flags_of words n) d false) (range_with_len 0 k)) long
    ∙ same_docs (λ d. get_or (flags_of words n) d false) test n (λ d h. flag-is words n d h ∙ b.bits d h)

-- words of a list's documents
pub bits_of_docs : (n : ℕ) (test : ℕ → Bool) (found words new : List ℕ) (count : ℕ) → found ≡ docs_where test n
    → words ≡ replicate (div_ceil n 64) 0 → length new ≡ length words → count ≡ length words
    → ((k : ℕ) → k < 64 * count → flag_at new k ≡ cond (list_any (λ d. eqb k d) found) true (flag_at words k))
    → AreBits n test new
bits_of_docs n test found words new count e zeros long counted each =
    let room : length words ≡ div_ceil n 64 = ap length zeros ∙ length-replicate (div_ceil n 64) 0 in
    record {
      room = long ∙ room;
      bits = λ d h.
          let clear : flag_at words d ≡ false =
          ap (λ ws. flag_at ws d) zeros
          ∙ (ap (λ w. eqb (bit_at w (d % 64)) 1) (get_or-replicate (div_ceil n 64) (d / 64) 0 0 (omega arith))
          ∙ ap (λ b. eqb b 1) (bit_at-zero (d % 64))) in
          each d (omega (arith, room, counted))
          ∙ (ap (λ b. cond b true (flag_at words d)) (ap (λ xs. list_any (λ k. eqb d k) xs) e ∙ among_docs test n d h)
          ∙ (ap (λ b. cond (test d) true b) clear ∙ or_nothing (test d)));
    }
  where
    or_nothing : (b : Bool) → cond b true false ≡ b
    or_nothing true = refl
    or_nothing false = refl

-- what a merge keeps stands for the documents of both sets
pub kept_both : (left right a b : Bool)
    → is_kept (kept_of left right) (turn_over left a) (turn_over right b) ≡ turn_over (left && right) (a && b)
kept_both false false true true = refl
kept_both false false true false = refl
kept_both false false false true = refl
kept_both false false false false = refl
kept_both false true true true = refl
kept_both false true true false = refl
kept_both false true false true = refl
kept_both false true false false = refl
kept_both true false true true = refl
kept_both true false true false = refl
kept_both true false false true = refl
kept_both true false false false = refl
kept_both true true true true = refl
kept_both true true true false = refl
kept_both true true false true = refl
kept_both true true false false = refl

-- a bit turned over twice
pub turned_twice : (turn a : Bool) → turn_over turn (turn_over turn a) ≡ a
turned_twice true true = refl
turned_twice true false = refl
turned_twice false a = refl

-- in either order
pub both_swapped : (a b : Bool) → (a && b) ≡ (b && a)
both_swapped true true = refl
both_swapped true false = refl
both_swapped false true = refl
both_swapped false false = refl

-- neither of two, turned over, is either
pub either_of : (a b : Bool) → not (not a && not b) ≡ (a || b)
either_of true true = refl
either_of true false = refl
either_of false true = refl
either_of false false = refl

-- a list that is left out of bits, which are turned over or not
pub mixed_turned : (turn a b : Bool) → cond (not a) turn (turn_over turn b) ≡ turn_over turn (a && b)
mixed_turned true true b = refl
mixed_turned false true b = refl
mixed_turned true false b = refl
mixed_turned false false b = refl

-- all documents, turned over or not, and those of another test
pub all_and : (turn a b : Bool) → turn_over true a ≡ false → turn_over turn b ≡ turn_over turn (a && b)
all_and turn true b h = refl
all_and turn false b h = cc

-- no document, and those of another test
pub none_and : (a b : Bool) → turn_over false a ≡ false → a ≡ turn_over false (a && b)
none_and true b h = cc
none_and false b h = refl

-- bits that are turned over once more
pub turned_bits : (n : ℕ) (turn : Bool) (test : ℕ → Bool) (words new : List ℕ) (count : ℕ) → AreBits n (λ d. turn_over turn (test d)) words
    → length new ≡ length words → count ≡ length words
    → ((k : ℕ) → k < 64 * count → flag_at new k ≡ turn_over turn (flag_at words k)) → AreBits n test new
turned_bits n turn test words new count b long counted each = record {
  room = long ∙ b.room;
  bits = λ d h. each d (omega (arith, b.room, counted)) ∙ (ap (turn_over turn) (b.bits d h) ∙ turned_twice turn (test d));
}

-- bits from which the documents of a list are taken out, where all but these are asked for
pub mixed_bits : (n : ℕ) (turn : Bool) (p q : ℕ → Bool) (found words new : List ℕ) (count : ℕ) → found ≡ docs_where (λ d. not (p d)) n
    → AreBits n (λ d. turn_over turn (q d)) words → length new ≡ length words → count ≡ length words
    → ((k : ℕ) → k < 64 * count → flag_at new k ≡ cond (list_any (λ d. eqb k d) found) turn (flag_at words k))
    → AreBits n (λ d. turn_over turn (p d && q d)) new
mixed_bits n turn p q found words new count e b long counted each = record {
  room = long ∙ b.room;
  bits = λ d h. each d (omega (arith, b.room, counted))
      ∙ (ap (λ v. cond v turn (flag_at words d)) (ap (λ xs. list_any (λ k. eqb d k) xs) e ∙ among_docs (λ d. not (p d)) n d h)
      ∙ (ap (λ v. cond (not (p d)) turn v) (b.bits d h) ∙ mixed_turned turn (p d) (q d)));
}

-- the documents of a list whose bits are set
pub mixed_list : (n : ℕ) (turn : Bool) (p q : ℕ → Bool) (found words new : List ℕ) → found ≡ docs_where p n
    → AreBits n (λ d. turn_over turn (q d)) words → new ≡ filter (λ d. turn_over turn (flag_at words d)) found
    → new ≡ docs_where (λ d. p d && q d) n
mixed_list n turn p q found words new e b made =
    let has : ℕ → Bool = λ d. turn_over turn (flag_at words d) in
    made ∙ (ap (filter has) e
    ∙ (pass_both p has (range_with_len 0 n)
    ∙ same_docs (λ d. p d && has d) (λ d. p d && q d) n
    (λ d h. ap (λ v. p d && v) (ap (turn_over turn) (b.bits d h) ∙ turned_twice turn (q d)))))

-- the documents of two sets in the other order
pub and_swapped : (n : ℕ) (p q : ℕ → Bool) (r : Result DocSet AllocError) → IfOk r (IsSetOf n (λ d. q d && p d))
    → IfOk r (IsSetOf n (λ d. p d && q d))
and_swapped n p q r h =
    let P : (ℕ → Bool) → Type 0 = λ test. IfOk r (IsSetOf n test) in
    let same : ◌≡◌ {A = ℕ → Bool} (λ d. q d && p d) (λ d. p d && q d) = λ i. λ d. both_swapped (q d) (p d) i in
    subst P same h

-- the documents that aren't in neither of two sets
pub or_of_neither : (n : ℕ) (p q : ℕ → Bool) (s : DocSet) → IsSetOf n (λ d. not (not (p d) && not (q d))) s → IsSetOf n (λ d. p d || q d) s
or_of_neither n p q s h =
    let P : (ℕ → Bool) → Type 0 = λ test. IsSetOf n test s in
    let same : ◌≡◌ {A = ℕ → Bool} (λ d. not (not (p d) && not (q d))) (λ d. p d || q d) = λ i. λ d. either_of (p d) (q d) i in
    subst P same h

-- documents that a merge keeps, as those of both sets
pub merged_both : (n : ℕ) (left right both : Bool) (kept : Kept) (p q : ℕ → Bool) (s : Docs) → kept ≡ kept_of left right
    → both ≡ (left && right) → AreDocs n (λ d. is_kept kept (turn_over left (p d)) (turn_over right (q d))) s
    → AreDocs n (λ d. turn_over both (p d && q d)) s
merged_both n left right both kept p q s ek eb h =
    docs_agree n (λ d. is_kept kept (turn_over left (p d)) (turn_over right (q d))) (λ d. turn_over both (p d && q d)) s
    (λ d below. ap (λ k. is_kept k (turn_over left (p d)) (turn_over right (q d))) ek
    ∙ (kept_both left right (p d) (q d) ∙ ap (λ b. turn_over b (p d && q d)) (sym eb))) h

-- all documents, and those of another set
pub all_and_docs : (n : ℕ) (turn : Bool) (p q : ℕ → Bool) (none found : List ℕ) → none ≡ []
    → none ≡ docs_where (λ d. turn_over true (p d)) n
    → found ≡ docs_where (λ d. turn_over turn (q d)) n → found ≡ docs_where (λ d. turn_over turn (p d && q d)) n
all_and_docs n turn p q none found empty a b =
    b ∙ same_docs (λ d. turn_over turn (q d)) (λ d. turn_over turn (p d && q d)) n
    (λ d h. all_and turn (p d) (q d) (none_among (λ d. turn_over true (p d)) n d (sym empty ∙ a) h))

-- no document, and those of another set
pub none_and_docs : (n : ℕ) (p q : ℕ → Bool) (none : List ℕ) → none ≡ [] → none ≡ docs_where (λ d. turn_over false (p d)) n
    → none ≡ docs_where (λ d. turn_over false (p d && q d)) n
none_and_docs n p q none empty a =
    a ∙ same_docs (λ d. turn_over false (p d)) (λ d. turn_over false (p d && q d)) n
    (λ d h. none_and (p d) (q d) (none_among (λ d. turn_over false (p d)) n d (sym empty ∙ a) h))

-- the same of a set
pub set_swapped : (n : ℕ) (p q : ℕ → Bool) (s : DocSet) → IsSetOf n (λ d. q d && p d) s → IsSetOf n (λ d. p d && q d) s
set_swapped n p q s h =
    let P : (ℕ → Bool) → Type 0 = λ test. IsSetOf n test s in
    let same : ◌≡◌ {A = ℕ → Bool} (λ d. q d && p d) (λ d. p d && q d) = λ i. λ d. both_swapped (q d) (p d) i in
    subst P same h
