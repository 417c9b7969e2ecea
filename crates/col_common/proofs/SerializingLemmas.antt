-- Calls that serialize, one behind another.
use Rattle.std.proofs.Common.{◌≡◌, ℕ, List, [], ◌++◌, Result, Ok, Err, Some, None, refl, ap, sym, ◌∙◌, append_assoc, append-nil, arith, inl, option_map, subst}
use Rattle.std.proofs.lemmas.Option.{same_Some}
use Rattle.col_common.specs.Outside.{Told, SeenSink, Appends, Grows, in_memory}
use Rattle.col_common.specs.Serializing.{Serializes}
use Rattle.col_common.specs.declared.error.ColumnarError.{ColumnarError}
use Rattle.col_common.specs.declared.error.ColumnarError.TheVariants.{OutOfMemory}

-- none behind what is told leaves it
told_none : (told : Told) → told ≡ option_map (λ held. held ++ []) told
told_none None = refl
told_none (Some held) = ap Some (sym (append-nil held))

-- two lists behind what is told, one behind the other
told_more : (a b c : Told) (xs ys : List ℕ) → b ≡ option_map (λ held. held ++ xs) a
    → c ≡ option_map (λ held. held ++ ys) b → c ≡ option_map (λ held. held ++ (xs ++ ys)) a
told_more None b c xs ys first second = second ∙ ap (option_map (λ held. held ++ ys)) first
told_more (Some held) b c xs ys first second = second ∙ ap (option_map (λ held. held ++ ys)) first ∙ ap Some (append_assoc held xs ys)

-- nothing was added
pub appends_none : (a : SeenSink) → Appends a a []
appends_none a = told_none a.written

-- what two calls added, one behind the other
pub appends_more : (a b c : SeenSink) (xs ys : List ℕ) → Appends a b xs → Appends b c ys → Appends a c (xs ++ ys)
appends_more a b c xs ys first second = told_more a.written b.written c.written xs ys first second

pub grows_more : (a b c : SeenSink) → Grows a b → Grows b c → Grows a c
grows_more a b c first second = (first.0 ++ second.0, appends_more a b c first.0 second.0 first.1 second.1)

-- a call behind one that was Ok
pub serializes-then :
    (a b c : SeenSink) (done : Unit {0}) (result : Result (Unit {0}) ColumnarError) (xs ys : List ℕ)
    → Serializes a b (Ok done) xs → Serializes b c result ys → Serializes a c result (xs ++ ys)
serializes-then a b c done (Ok end) xs ys first second = record {
  ok = appends_more a b c xs ys first.ok second.ok;
  grown = grows_more a b c first.grown second.grown;
  later = omega (arith, first.later, second.later);
  write_fault = λ e. let rose = second.write_fault e in omega (arith, rose, first.later);
  causes = tt;
}
serializes-then a b c done (Err e) xs ys first second = record {
  ok = tt;
  grown = grows_more a b c first.grown second.grown;
  later = omega (arith, first.later, second.later);
  write_fault = λ e. let rose = second.write_fault e in omega (arith, rose, first.later);
  causes = second.causes;
}

-- a call that was refused, whatever was to come behind it
pub serializes-stopped : (a b : SeenSink) (e : ColumnarError) (xs ys : List ℕ) → Serializes a b (Err e) xs → Serializes a b (Err e) ys
serializes-stopped a b e xs ys first = record {
  ok = tt;
  grown = first.grown;
  later = first.later;
  write_fault = first.write_fault;
  causes = first.causes;
}

-- want of memory before the first byte
pub serializes-no_memory : (a : SeenSink) (ys : List ℕ) → Serializes a a (Err OutOfMemory) ys
serializes-no_memory a ys = record {
  ok = tt;
  grown = ([], appends_none a);
  later = omega arith;
  write_fault = λ e. absurd (cc);
  causes = inl refl;
}

-- nothing was to be added
pub serializes-nothing : (a : SeenSink) (done : Unit {0}) → Serializes a a (Ok done) []
serializes-nothing a done = record {
  ok = appends_none a;
  grown = ([], appends_none a);
  later = omega arith;
  write_fault = λ e. absurd (cc);
  causes = tt;
}

-- the same, of bytes that are equal
pub serializes-as : (a b : SeenSink) (result : Result (Unit {0}) ColumnarError) (xs ys : List ℕ)
    → Serializes a b result xs → xs ≡ ys → Serializes a b result ys
serializes-as a b result xs ys first e = subst (λ bytes. Serializes a b result bytes) e first

-- a refusal behind a call that was Ok, whatever was to be added
pub serializes-refused : (a b c : SeenSink) (done : Unit {0}) (e : ColumnarError) (xs ys zs : List ℕ)
    → Serializes a b (Ok done) xs → Serializes b c (Err e) ys → Serializes a c (Err e) zs
serializes-refused a b c done e xs ys zs first second =
    serializes-stopped a c e (xs ++ ys) zs (serializes-then a b c done (Err e) xs ys first second)

-- what a buffer has after Ok
pub added_in_memory : (old new bytes : List ℕ) (done : Unit {0})
    → Serializes (in_memory old) (in_memory new) (Ok done) bytes → new ≡ old ++ bytes
added_in_memory old new bytes done added = same_Some new (old ++ bytes) added.ok
