-- What is written of a list under the chosen codec.
use Rattle.std.proofs.Common.{◌≡◌, ℕ, ◌==◌, ◌<◌, ◌^◌, true, List, [], ◌∷◌, length, map, Option, Some, None, Result, Ok, Err, OnOk, refl, sym, arith, subst}
use Rattle.std.specs.Option.{IfSome}
use Rattle.col_common.specs.Ascending.{AreBelow}
use Rattle.col_common.specs.Outside.{SeenSink}
use Rattle.col_common.specs.Serializing.{Serializes}
use Rattle.col_common.specs.declared.error.ColumnarError.{ColumnarError}
use Rattle.col_model.specs.Codecs.{chosen_codec, codec_bytes, body_by}
use Rattle.col_common.proofs.SerializingLemmas.{serializes-then}
use Rattle.col_model.proofs.ChosenLaws.{values64-chosen}
use Rattle.col_numbers.specs.Written.{AppendsList}

-- what is said of a value that is there
pub at_some : {X : Type 0} (P : X → Type 0) (o : Option X) (x : X) → o ≡ Some x → P x → IfSome o P
at_some P o x e p = subst (λ o. IfSome o P) (sym e) p

-- what holds where a value is there holds for a value that is
pub from_some : {X : Type 0} (P : Type 0) (o : Option X) (x : X) → o ≡ Some x → IfSome o (λ _. P) → P
from_some P o x e p = subst (λ o. IfSome o (λ _. P)) e p

-- no codec is chosen where none is offered
none_offered : {A : Type 0} (f : A → ℕ) (cs : List A) (xs : List ℕ) → true ≡ (length cs == 0) → chosen_codec xs (map f cs) ≡ None
unfolding chosen_codec
none_offered f [] xs e = refl
none_offered f (c ∷ cs) xs e = absurd (grind (arith, e))

-- without codecs none is chosen, so anything holds of the chosen one
pub nothing_offered : {A : Type 0} (f : A → ℕ) (cs : List A) (xs : List ℕ) (P : ℕ → Type 0)
    → true ≡ (length cs == 0) → IfSome (chosen_codec xs (map f cs)) P
nothing_offered f cs xs P e = subst (λ o. IfSome o P) (sym (none_offered f cs xs e)) tt

-- the bytes under the chosen codec stand for the list
pub appends_list : (old new : SeenSink) (result : Result (Unit {0}) ColumnarError) (xs codecs : List ℕ) (codec : ℕ)
    → AreBelow (2 ^ 64) xs → length xs < 2 ^ 32 → chosen_codec xs codecs ≡ Some codec
    → Serializes old new result (codec_bytes codec xs) → OnOk result (AppendsList old new xs)
appends_list old new (Ok done) xs codecs codec all fits e s = (codec_bytes codec xs, values64-chosen codecs xs codec all fits e, s.ok)
appends_list old new (Err refusal) xs codecs codec all fits e s = tt

-- a body behind the codec's code
pub behind_code : (old mid new : SeenSink) (done : Unit {0}) (result : Result (Unit {0}) ColumnarError)
    (read codec : ℕ) (xs : List ℕ) → read ≡ codec → Serializes old mid (Ok done) (read ∷ [])
    → Serializes mid new result (body_by codec xs) → Serializes old new result (codec_bytes codec xs)
behind_code old mid new done result read codec xs e head body =
    serializes-then old mid new done result (codec ∷ []) (body_by codec xs) (subst (λ b. Serializes old mid (Ok done) (b ∷ [])) e head) body
