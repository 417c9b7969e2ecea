-- Texts that are put piece by piece.
use Rattle.std.proofs.Common.{◌≡◌, ◌∙◌, ℕ, true, false, List, [], ◌++◌, length, take, drop, Result, Ok, Err, OnOk, is_err, is_ok, if◌then◌else◌, refl, sym, ap, subst, arith, append-nil, append_assoc}
use Rattle.std.proofs.Math.Seq.{take-append_seam}
use Rattle.std.proofs.lemmas.List.{take-append-drop}
use Rattle.std.proofs.lemmas.Result.{on_err_weaker}
use Rattle.col_common.specs.Causes.{HasCause}
use Rattle.col_common.specs.Outside.{SeenSink, Appends, AppendsPrefix, WriteAppends}
use Rattle.col_common.specs.declared.outside.HandleError.{HandleError}
use Rattle.col_common.specs.declared.outside.HandleError.TheVariants.{Failed, Memory}
use Rattle.col_common.proofs.SerializingLemmas.{appends_more, appends_none}
use Rattle.col_print.specs.Puts.{SeenOut, HasPut, Puts}

-- ---- pieces one behind another

-- no piece
pub puts_none : (o : SeenOut) → Puts o o []
unfolding Puts
puts_none o = (refl, λ start text put. subst (HasPut start o) (sym (append-nil text)) put)

-- two pieces
pub puts_then : (a b c : SeenOut) (xs ys : List ℕ) → Puts a b xs → Puts b c ys → Puts a c (xs ++ ys)
unfolding Puts
puts_then a b c xs ys first second = (
  second.0 ∙ first.0,
  λ start text put.
      subst (HasPut start c) (append_assoc text xs ys) (second.1 start (text ++ xs) (first.1 start text put)),
)

-- the same piece
pub puts_as : (a b : SeenOut) (xs ys : List ℕ) → xs ≡ ys → Puts a b xs → Puts a b ys
puts_as a b xs ys e = subst (Puts a b) e

-- ---- fronts

-- what a sink took is a front of any text that goes on behind it
front-of : (a b : SeenSink) (front rest text : List ℕ) → Appends a b front → front ++ rest ≡ text → AppendsPrefix a b text
front-of a b front rest text took e =
    let same = ap (take (length front)) (sym e) ∙ take-append_seam front rest in
    (length front, subst (Appends a b) (sym same) took)

-- a front of a text is one of a longer text
front-longer : (a b : SeenSink) (text more : List ℕ) → AppendsPrefix a b text → AppendsPrefix a b (text ++ more)
front-longer a b text more took =
    front-of a b (take took.0 text) (drop took.0 text ++ more) (text ++ more) took.1
    (sym (append_assoc (take took.0 text) (drop took.0 text) more) ∙ ap (λ s. s ++ more) (take-append-drop took.0 text))

-- ---- what one call puts

-- behind a refusal nothing is taken
pub puts_stopped : (n : ℕ) (s : SeenSink) (p : List ℕ) (e : Result (Unit {0}) HandleError) (bytes : List ℕ) → is_err e ≡ true
    → Puts record { place = n; sink = s; pending = p; ended = e } record { place = n; sink = s; pending = p; ended = e } bytes
unfolding Puts
puts_stopped n s p (Ok done) bytes is = absurd (cc)
puts_stopped n s p (Err e) bytes is = (
  refl,
  λ start text put.
      record {
        whole = tt;
        part = front-longer start s text bytes put.part;
        cause = put.cause;
      },
)

-- a refusal is no Ok
never_ok : {E : Type 0} (P : Type 0) (r : Result (Unit {0}) E) → is_err r ≡ true → OnOk r P
never_ok P (Ok done) is = absurd (cc)
never_ok P (Err e) is = tt

-- nor is what would come behind
pub puts_past : (s t : SeenOut) (xs ys : List ℕ) → is_err t.ended ≡ true → Puts s t xs → Puts s t (xs ++ ys)
unfolding Puts
puts_past s t xs ys is puts = (
  puts.0,
  λ start text put.
      let before = puts.1 start text put in
      subst (HasPut start t) (append_assoc text xs ys) record {
        whole = never_ok _ t.ended is;
        part = on_err_weaker t.ended (front-longer start t.sink (text ++ xs) ys) before.part;
        cause = before.cause;
      },
)

-- what is held is pending
pub puts_held : (n : ℕ) (s : SeenSink) (p q : List ℕ) (e : Result (Unit {0}) HandleError) (bytes : List ℕ) → is_err e ≡ false
    → q ≡ p ++ bytes
    → Puts record { place = n; sink = s; pending = p; ended = e } record { place = n; sink = s; pending = q; ended = e } bytes
unfolding Puts
puts_held n s p q (Err e) bytes is held = absurd (cc)
puts_held n s p q (Ok done) bytes is held = (
  refl,
  λ start text put.
      record {
        whole = (
          put.whole.0,
          put.whole.1,
          ap (λ q. put.whole.0 ++ q) held ∙ sym (append_assoc put.whole.0 p bytes) ∙ ap (λ s. s ++ bytes) put.whole.2,
        );
        part = tt;
        cause = put.cause;
      },
)

-- what is not held for want of memory
pub puts_refused : (n : ℕ) (s : SeenSink) (p q : List ℕ) (e : Result (Unit {0}) HandleError) (bytes : List ℕ) → is_err e ≡ false
    → Puts record { place = n; sink = s; pending = p; ended = e } record { place = n; sink = s; pending = q; ended = Err Memory } bytes
unfolding Puts
puts_refused n s p q (Err e) bytes is = absurd (cc)
puts_refused n s p q (Ok done) bytes is = (
  refl,
  λ start text put.
      record {
        whole = tt;
        part = front-of start s put.whole.0 (p ++ bytes) (text ++ bytes) put.whole.1
            (sym (append_assoc put.whole.0 p bytes) ∙ ap (λ s. s ++ bytes) put.whole.2);
        cause = record { later = put.cause.later; failed = λ e. absurd (cc) };
      },
)

-- the same of one text that was put before
was-written : (n : ℕ) (s t : SeenSink) (p w q bytes : List ℕ) (start : SeenSink) (text : List ℕ) (r : Result (Unit {0}) HandleError)
    → p ++ bytes ≡ w ++ q → HasPut start record { place = n; sink = s; pending = p; ended = Ok tt } text → WriteAppends s t r w
    → HasCause s.faults t.faults r → HasPut start record { place = n; sink = t; pending = q; ended = r } (text ++ bytes)
was-written n s t p w q bytes start text r all put wrote cause =
    by r wrote cause
  where
    front : List ℕ
    front = put.whole.0

    took : Appends start s front
    took = put.whole.1

    behind : front ++ (w ++ q) ≡ text ++ bytes
    behind = ap (λ x. front ++ x) (sym all) ∙ sym (append_assoc front p bytes) ∙ ap (λ x. x ++ bytes) put.whole.2

    by : (r : Result (Unit {0}) HandleError) → WriteAppends s t r w → HasCause s.faults t.faults r
        → HasPut start record { place = n; sink = t; pending = q; ended = r } (text ++ bytes)
    by (Ok done) wrote cause = record {
      whole = (front ++ w, appends_more start s t front w took wrote, append_assoc front w q ∙ behind);
      part = tt;
      cause = record { later = let one = put.cause.later in omega (arith, one, cause.later); failed = λ e. absurd (cc) };
    }
    by (Err Failed) wrote cause = record {
      whole = tt;
      part = front-of start t (front ++ take wrote.0 w) (drop wrote.0 w ++ q) (text ++ bytes)
          (appends_more start s t front (take wrote.0 w) took wrote.1)
          (append_assoc front (take wrote.0 w) (drop wrote.0 w ++ q)
          ∙ ap (λ x. front ++ x) (sym (append_assoc (take wrote.0 w) (drop wrote.0 w) q)
          ∙ ap (λ x. x ++ q) (take-append-drop wrote.0 w))
          ∙ behind);
      cause = record {
        later = let one = put.cause.later in omega (arith, one, cause.later);
        failed = λ e. let one = put.cause.later in let rose = cause.failed e in omega (arith, one, rose);
      };
    }
    by (Err Memory) wrote cause = record {
      whole = tt;
      part = front-of start t front (w ++ q) (text ++ bytes) (wrote ∙ took) behind;
      cause = record { later = let one = put.cause.later in omega (arith, one, cause.later); failed = λ e. absurd (cc) };
    }

-- what is written: the front of what was pending and is put, and the others are pending then
pub puts_written : (n : ℕ) (s t : SeenSink) (p w q bytes : List ℕ) (e r : Result (Unit {0}) HandleError) → is_err e ≡ false
    → p ++ bytes ≡ w ++ q → WriteAppends s t r w → HasCause s.faults t.faults r
    → Puts record { place = n; sink = s; pending = p; ended = e } record { place = n; sink = t; pending = q; ended = r } bytes
unfolding Puts
puts_written n s t p w q bytes (Err e) r is all wrote cause = absurd (cc)
puts_written n s t p w q bytes (Ok done) r is all wrote cause = (
  refl,
  λ start text put.
      was-written n s t p w q bytes start text r all put wrote cause,
)

-- what a list holds that was extended
pub extended : {E : Type 0} (r : Result (Unit {0}) E) (new old more : List ℕ) → is_err r ≡ false
    → new ≡ (if is_ok r then old ++ more else old) → new ≡ old ++ more
extended (Err e) new old more is grown = absurd (cc)
extended (Ok done) new old more is grown = grown

-- what holds after Ok, where there was no refusal
pub after_ok : {E P : Type 0} (r : Result (Unit {0}) E) → is_err r ≡ false → OnOk r P → P
after_ok (Err e) is p = absurd (cc)
after_ok (Ok done) is p = p

-- ---- the start and the end

-- which sink it is stays
pub same_place : (a b : SeenOut) (bytes : List ℕ) → Puts a b bytes → b.place ≡ a.place
unfolding Puts
same_place a b bytes put = put.0

-- nothing was put
pub put_nothing : (n : ℕ) (s : SeenSink) → HasPut s record { place = n; sink = s; pending = []; ended = Ok tt } []
put_nothing n s = record {
  whole = ([], appends_none s, refl);
  part = tt;
  cause = record { later = omega arith; failed = λ e. absurd (cc) };
}
