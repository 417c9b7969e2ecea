-- Lists of numbers on their way into a sink.
use Rattle.std.proofs.Common.{◌≡◌, ℕ, ◌^◌, ◌<◌, List, [], ◌∷◌, ◌++◌, length, Some, Result, Ok, Err, OnOk, sym, ◌∙◌, ap, subst, append_assoc}
use Rattle.std.specs.Int.{w64, to_le_bytes}
use Rattle.col_common.specs.Outside.{SeenSink}
use Rattle.col_common.specs.Serializing.{Serializes}
use Rattle.col_common.specs.VInt.{vint_bytes}
use Rattle.col_common.specs.declared.error.ColumnarError.{ColumnarError}
use Rattle.col_common.proofs.SerializingLemmas.{serializes-then, serializes-refused}
use Rattle.col_model.specs.AddressList.{coded_values}
use Rattle.col_compact.specs.Covers.{Trained, Represents}
use Rattle.col_compact.specs.Written.{footer_bytes, trained_footer, codes_bytes, coded_bytes, list_bytes, SerializesList}
use Rattle.col_compact.proofs.ListLemmas.{list-again}

-- what holds at any rate holds after Ok
pub on_ok-always : {T E P : Type 0} (r : Result T E) → P → OnOk r P
on_ok-always (Ok value) p = p
on_ok-always (Err e) p = tt

-- the parts of what is written of codes
pub coded_bytes-parts : (t u : Trained) (xs codes footer : List ℕ) → u ≡ t → codes ≡ codes_bytes u xs
    → footer ≡ footer_bytes (trained_footer t)
    → codes ++ (footer ++ to_le_bytes w64 (length footer)) ≡ coded_bytes t xs
coded_bytes-parts t u xs codes footer e f g =
    ap (λ c. c ++ (footer ++ to_le_bytes w64 (length footer))) (f ∙ ap (λ v. codes_bytes v xs) e)
    ∙ ap (λ (b : List ℕ). codes_bytes t xs ++ (b ++ to_le_bytes w64 (length b))) g
    ∙ sym (append_assoc (codes_bytes t xs) (footer_bytes (trained_footer t)) (to_le_bytes w64 (length (footer_bytes (trained_footer t)))))

-- it stands for the list, by what the space tells
pub coded_bytes-again : (t u : Trained) (xs footer : List ℕ) → u ≡ t
    → ((ys : List ℕ) → Represents ys u → length (footer_bytes (trained_footer u)) < 2 ^ 64 → coded_values (coded_bytes u ys) ≡ Some ys)
    → Represents xs t → footer ≡ footer_bytes (trained_footer t) → length footer < 2 ^ 64 → coded_values (coded_bytes t xs) ≡ Some xs
coded_bytes-again t u xs footer e told is f fits =
    subst (λ (v : Trained). (ys : List ℕ) → Represents ys v → length (footer_bytes (trained_footer v)) < 2 ^ 64
    → coded_values (coded_bytes v ys) ≡ Some ys) e told xs is
    (subst (λ (b : List ℕ). length b < 2 ^ 64) f fits)

-- a refusal behind what was added, whatever was to come
pub list-refused : (a b c : SeenSink) (done : Unit {0}) (e : ColumnarError) (first bytes xs : List ℕ)
    → Serializes a b (Ok done) first → Serializes b c (Err e) bytes → SerializesList a c (Err e) xs
list-refused a b c done e first bytes xs s t = ([], tt, serializes-refused a b c done e first bytes [] s t)

-- the list behind its count and the codec's byte
pub list-written : (a b c d : SeenSink) (done more : Unit {0}) (result : Result (Unit {0}) ColumnarError) (n : ℕ)
    (t : Trained) (xs : List ℕ) → n ≡ t.count → Represents xs t
    → Serializes a b (Ok done) (vint_bytes n) → Serializes b c (Ok more) (1 ∷ [])
    → Serializes c d result (coded_bytes t xs) → OnOk result (coded_values (coded_bytes t xs) ≡ Some xs)
    → SerializesList a d result xs
list-written a b c d done more (Ok end) n t xs e is head kind body again = (
  list_bytes t xs,
  list-again t xs is again,
  subst (λ k. Serializes a d (Ok end) (vint_bytes k ++ (1 ∷ coded_bytes t xs))) e
      (serializes-then a b d done (Ok end) (vint_bytes n) (1 ∷ coded_bytes t xs) head
      (serializes-then b c d more (Ok end) (1 ∷ []) (coded_bytes t xs) kind body)),
)
list-written a b c d done more (Err refusal) n t xs e is head kind body again = (
  vint_bytes n ++ (1 ∷ coded_bytes t xs),
  tt,
  serializes-then a b d done (Err refusal) (vint_bytes n) (1 ∷ coded_bytes t xs) head
      (serializes-then b c d more (Err refusal) (1 ∷ []) (coded_bytes t xs) kind body),
)
