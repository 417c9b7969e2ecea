-- What the answer to a call on one input leaves.
use Rattle.std.proofs.Common.{◌≡◌, ◌⊎◌, ℕ, List, [], ◌∷◌, Option, Some, None, Err, IfSome, Contains, inl, inr, refl, sym, ap, ◌∙◌, subst, arith}
use Rattle.col_common.specs.Outside.{SeenFile, SeenSink}
use Rattle.col_common.specs.Reading.{◌>>=◌}
use Rattle.col_common.specs.Refused.{code_of}
use Rattle.col_common.specs.declared.error.ColumnarError.{ColumnarError}
use Rattle.col_common.specs.declared.error.ColumnarError.TheVariants.{OutOfMemory, ReadFault, InvalidData}
use Rattle.col_file.specs.Files.{RefusesFile, IsExpected}
use Rattle.col_program.specs.Outcome.{Outcome, IsDone, IsOutput, refused}
use Rattle.col_outcome.specs.Parts.{all_told, SomeFileRose}
use Rattle.col_tool.specs.Answer.{refusals, IsAnswer, Leaves, Delivers}
use Rattle.col_tool.specs.Statuses.{check_statuses}
use Rattle.col_tool.specs.declared.refusal.Refusal.TheVariants.{Store}
use Rattle.col_tool.proofs.AnswerLemmas.{refused-is}
use Rattle.col_tool.proofs.Left.{leaves_made}
use Rattle.col_tool.proofs.RefusedLemmas.{fault-read}

-- ---- refusals

-- want of memory, a read that failed, or bytes that stand for nothing
abbrev pub IsOfInput : ColumnarError → Type 0
IsOfInput e = (e ≡ OutOfMemory) ⊎ ((e ≡ ReadFault) ⊎ (e ≡ InvalidData))

-- a call on a file refuses as it may
pub input-refusal : {V : Type 0} (old new : SeenFile) (e : ColumnarError) (expected : List ℕ → Option V)
    → RefusesFile old new e expected → IsOfInput e
input-refusal old new OutOfMemory expected h = inl refl
input-refusal old new ReadFault expected h = inr (inl refl)
input-refusal old new InvalidData expected h = inr (inr refl)
input-refusal old new _ expected h = absurd h

-- its status is among those of a check
pub refusal-checks : (e : ColumnarError) → IsOfInput e → Contains check_statuses (code_of e)
refusal-checks e (inl memory) = (1, omega arith, sym (ap code_of memory))
refusal-checks e (inr (inl fault)) = (2, omega arith, sym (ap code_of fault))
refusal-checks e (inr (inr invalid)) = (4, omega arith, sym (ap code_of invalid))

-- and among those of refusals
refusal-refuses : (e : ColumnarError) → IsOfInput e → Contains refusals (code_of e)
refusal-refuses e (inl memory) = (0, omega arith, sym (ap code_of memory))
refusal-refuses e (inr (inl fault)) = (1, omega arith, sym (ap code_of fault))
refusal-refuses e (inr (inr invalid)) = (2, omega arith, sym (ap code_of invalid))

-- it is no fault of a sink
pub refusal-unwritten : (e : ColumnarError) → IsOfInput e → code_of e ≡ 5 → ⊥
refusal-unwritten e (inl memory) five = omega (arith, ap code_of memory, five)
refusal-unwritten e (inr (inl fault)) five = omega (arith, ap code_of fault, five)
refusal-unwritten e (inr (inr invalid)) five = omega (arith, ap code_of invalid, five)

-- a read failed only where the input's count of faults rose
pub input-rose : {V : Type 0} (olds news : List SeenFile) (old new : SeenFile) (e : ColumnarError) (expected : List ℕ → Option V)
    → olds ≡ old ∷ [] → news ≡ new ∷ [] → RefusesFile old new e expected → code_of e ≡ 4 → SomeFileRose olds news
input-rose olds news old new e expected before behind h four =
    subst (λ fs. SomeFileRose fs news) (sym before) (subst (λ fs. SomeFileRose (old ∷ []) fs) (sym behind)
    (inl (subst (λ x. RefusesFile old new x expected) (fault-read e four) h)))

-- ---- the one input

-- the input was told where all inputs were
pub one-told : (old : SeenFile) (P : List (List ℕ) → Type 0) → IfSome old.told (λ bytes. P (bytes ∷ [])) → IfSome (all_told (old ∷ [])) P
one-told old P h = by old.told h
  where
    by : (o : Option (List ℕ)) → IfSome o (λ bytes. P (bytes ∷ [])) → IfSome (o >>= λ y. Some (y ∷ [])) P
    by None h = tt
    by (Some bytes) h = h

-- the outcome of one input is what its bytes come to, and 6 where they stand for nothing
pub record IsOfOne {V : Type 0} (expected : List ℕ → Option V) (comes : Option V → Outcome)
    (outcome : List (List ℕ) → Outcome) : Type 0 where
  pub one : (bytes : List ℕ) → outcome (bytes ∷ []) ≡ comes (expected bytes)
  pub none : comes None ≡ refused 6

module _ {V : Type 0} (expected : List ℕ → Option V) (comes : Option V → Outcome) (outcome : List (List ℕ) → Outcome)
    (is : IsOfOne expected comes outcome) (olds : List SeenFile) (old : SeenFile) (before : olds ≡ old ∷ []) where
  -- what a file and a report leave that were made
  pub input-delivered : {T : Type 0} (IsOf : V → T → Type 0) (made : T) (output output' report report' : SeenSink)
      (file text : List ℕ) (status : ℕ)
      → ((v : V) → IsOf v made → IsDone (comes (Some v)) (λ o lines. IsOutput o file × (text ≡ lines)))
      → IfSome old.told (λ bytes. IsExpected IsOf made (expected bytes))
      → Delivers output output' report report' file text status
      → IfSome (all_told olds) (λ files. Leaves output output' report report' status (outcome files))
  input-delivered IsOf made output output' report report' file text status done h d =
      subst (λ fs. IfSome (all_told fs) (λ files. Leaves output output' report report' status (outcome files))) (sym before)
      (one-told old (λ files. Leaves output output' report report' status (outcome files)) (at old.told h))
    where
      by : (o : Option V) → IsExpected IsOf made o → Leaves output output' report report' status (comes o)
      by None h = absurd h
      by (Some v) h = leaves_made output output' report report' file text status (comes (Some v)) (done v h) d

      at : (o : Option (List ℕ)) → IfSome o (λ bytes. IsExpected IsOf made (expected bytes))
          → IfSome o (λ bytes. Leaves output output' report report' status (outcome (bytes ∷ [])))
      at None h = tt
      at (Some bytes) h = subst (Leaves output output' report report' status) (sym (is.one bytes)) (by (expected bytes) h)

  -- what a refusal leaves
  pub input-refused : (output report : SeenSink) (new : SeenFile) (e : ColumnarError) → RefusesFile old new e expected
      → IfSome (all_told olds) (λ files. Leaves output output report report (code_of e) (outcome files))
  input-refused output report new e h =
      subst (λ fs. IfSome (all_told fs) (λ files. Leaves output output report report (code_of e) (outcome files))) (sym before)
      (one-told old (λ files. Leaves output output report report (code_of e) (outcome files)) (left old.told (answers e h)))
    where
      among : Contains refusals (code_of e)
      among = refusal-refuses e (input-refusal old new e expected h)

      answers : (e : ColumnarError) → RefusesFile old new e expected
          → IfSome old.told (λ bytes. IsAnswer (outcome (bytes ∷ [])) (Err (Store e)))
      answers OutOfMemory h = always old.told
        where
          always : (o : Option (List ℕ)) → IfSome o (λ bytes. IsAnswer (outcome (bytes ∷ [])) (Err (Store OutOfMemory)))
          always None = tt
          always (Some bytes) = inr (inl refl)
      answers ReadFault h = always old.told
        where
          always : (o : Option (List ℕ)) → IfSome o (λ bytes. IsAnswer (outcome (bytes ∷ [])) (Err (Store ReadFault)))
          always None = tt
          always (Some bytes) = inr (inr refl)
      answers InvalidData h = always old.told h
        where
          always : (o : Option (List ℕ)) → IfSome o (λ bytes. expected bytes ≡ None)
              → IfSome o (λ bytes. IsAnswer (outcome (bytes ∷ [])) (Err (Store InvalidData)))
          always None h = tt
          always (Some bytes) h = inl (is.one bytes ∙ ap comes h ∙ is.none)
      answers _ h = absurd h

      left : (o : Option (List ℕ)) → IfSome o (λ bytes. IsAnswer (outcome (bytes ∷ [])) (Err (Store e)))
          → IfSome o (λ bytes. Leaves output output report report (code_of e) (outcome (bytes ∷ [])))
      left None h = tt
      left (Some bytes) h = refused-is output report (Store e) (outcome (bytes ∷ [])) among h
