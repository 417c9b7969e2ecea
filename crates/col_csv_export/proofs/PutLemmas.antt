-- Texts put into a sink, one behind another, with some of them held back.
use Rattle.std.proofs.Common.{◌≡◌, ◌∙◌, ℕ, List, [], ◌++◌, Result, Ok, Err, refl, sym, ap, subst, arith, inl, append-nil, append_assoc}
use Rattle.col_common.specs.Outside.{SeenSink, Appends}
use Rattle.col_common.specs.Serializing.{Serializes}
use Rattle.col_common.specs.declared.error.ColumnarError.{ColumnarError}
use Rattle.col_common.specs.declared.error.ColumnarError.TheVariants.{OutOfMemory}
use Rattle.col_common.proofs.SerializingLemmas.{appends_none, appends_more, grows_more}
use Rattle.csv.specs.Records.{Row, fields_of}
use Rattle.col_csv.specs.Csv.{record_text}
use Rattle.col_csv_export.specs.Putting.{HasFields, HoldsBack, PutsText}

-- what was held back before is in front of what came behind
holds-then : (a b c : SeenSink) (s t u xs ys : List ℕ) → HoldsBack a b t (s ++ xs) → HoldsBack b c u (t ++ ys)
    → HoldsBack a c u (s ++ (xs ++ ys))
holds-then a b c s t u xs ys first second = record {
  part = first.part ++ second.part;
  added = appends_more a b c first.part second.part first.added second.added;
  all = append_assoc first.part second.part u ∙ ap (λ z. first.part ++ z) second.all
      ∙ sym (append_assoc first.part t ys) ∙ ap (λ z. z ++ ys) first.all ∙ append_assoc s xs ys;
}

-- a text behind one that was put
pub puts-then : (a b c : SeenSink) (done : Unit {0}) (r : Result (Unit {0}) ColumnarError) (s t u xs ys : List ℕ)
    → PutsText a b (Ok done) s t xs → PutsText b c r t u ys → PutsText a c r s u (xs ++ ys)
puts-then a b c done (Ok end) s t u xs ys first second = record {
  ok = holds-then a b c s t u xs ys first.ok second.ok;
  grown = grows_more a b c first.grown second.grown;
  later = omega (arith, first.later, second.later);
  write_fault = λ e. let rose = second.write_fault e in omega (arith, rose, first.later);
  causes = tt;
}
puts-then a b c done (Err e) s t u xs ys first second = record {
  ok = tt;
  grown = grows_more a b c first.grown second.grown;
  later = omega (arith, first.later, second.later);
  write_fault = λ e. let rose = second.write_fault e in omega (arith, rose, first.later);
  causes = second.causes;
}

-- a refusal, whatever was to be put
pub puts-stopped : (a b : SeenSink) (e : ColumnarError) (s t s2 t2 xs ys : List ℕ) → PutsText a b (Err e) s t xs
    → PutsText a b (Err e) s2 t2 ys
puts-stopped a b e s t s2 t2 xs ys first = record {
  ok = tt;
  grown = first.grown;
  later = first.later;
  write_fault = first.write_fault;
  causes = first.causes;
}

-- a refusal behind texts that were put
pub puts-refused : (a b c : SeenSink) (done : Unit {0}) (e : ColumnarError) (s t u xs ys zs : List ℕ)
    → PutsText a b (Ok done) s t xs → PutsText b c (Err e) t u ys → PutsText a c (Err e) s u zs
puts-refused a b c done e s t u xs ys zs first second =
    puts-stopped a c e s u s u (xs ++ ys) zs (puts-then a b c done (Err e) s t u xs ys first second)

-- want of memory before anything was put
pub puts_memory : (a : SeenSink) (s t xs : List ℕ) → PutsText a a (Err OutOfMemory) s t xs
puts_memory a s t xs = record {
  ok = tt;
  grown = ([], appends_none a);
  later = omega arith;
  write_fault = λ e. absurd (cc);
  causes = inl refl;
}

-- nothing was to be put
pub puts-nothing : (a : SeenSink) (done : Unit {0}) (s : List ℕ) → PutsText a a (Ok done) s s []
puts-nothing a done s = record {
  ok = record { part = []; added = appends_none a; all = sym (append-nil s) };
  grown = ([], appends_none a);
  later = omega arith;
  write_fault = λ e. absurd (cc);
  causes = tt;
}

-- what was held back, added behind the others, makes the whole
whole-added : (a b c : SeenSink) (s t xs : List ℕ) → s ≡ [] → HoldsBack a b t (s ++ xs) → Appends b c t → Appends a c xs
whole-added a b c s t xs none held added =
    subst (Appends a c) (held.all ∙ ap (λ z. z ++ xs) none) (appends_more a b c held.part t held.added added)

-- texts that were put, and what is held back written behind them
puts-end : (a b c : SeenSink) (done : Unit {0}) (r : Result (Unit {0}) ColumnarError) (s t xs : List ℕ) → s ≡ []
    → PutsText a b (Ok done) s t xs → Serializes b c r t → Serializes a c r xs
puts-end a b c done (Ok end) s t xs none first second = record {
  ok = whole-added a b c s t xs none first.ok second.ok;
  grown = grows_more a b c first.grown second.grown;
  later = omega (arith, first.later, second.later);
  write_fault = λ e. absurd (cc);
  causes = tt;
}
puts-end a b c done (Err e) s t xs none first second = record {
  ok = tt;
  grown = grows_more a b c first.grown second.grown;
  later = omega (arith, first.later, second.later);
  write_fault = λ e. let rose = second.write_fault e in omega (arith, rose, first.later);
  causes = second.causes;
}

-- a refusal behind a text that was put is one of the whole
pub texts-refused : (a b c : SeenSink) (done : Unit {0}) (e : ColumnarError) (s t u xs ys zs : List ℕ)
    → PutsText a b (Ok done) s t xs → PutsText b c (Err e) t u ys → Serializes a c (Err e) zs
texts-refused a b c done e s t u xs ys zs first second =
    let both = puts-then a b c done (Err e) s t u xs ys first second in record {
      ok = tt;
      grown = both.grown;
      later = both.later;
      write_fault = both.write_fault;
      causes = both.causes;
    }

-- two texts that were put from nothing on, and what is held back written behind them
pub texts-written : (a b c d : SeenSink) (done over : Unit {0}) (r : Result (Unit {0}) ColumnarError)
    (s t u v xs ys : List ℕ) → s ≡ [] → v ≡ u → PutsText a b (Ok done) s t xs → PutsText b c (Ok over) t u ys
    → Serializes c d r v → Serializes a d r (xs ++ ys)
texts-written a b c d done over r s t u v xs ys none same first second last =
    puts-end a c d over r s u (xs ++ ys) none (puts-then a b c done (Ok over) s t u xs ys first second)
    (subst (Serializes c d r) same last)

-- the text of a record is that of its fields
pub puts_fields : (a b : SeenSink) (result : Result (Unit {0}) ColumnarError) (s t : List ℕ) (r : Row)
    (fields : List (List ℕ)) → HasFields r fields → PutsText a b result s t (record_text (fields_of r))
    → PutsText a b result s t (record_text fields)
puts_fields a b result s t r fields has puts = subst (λ fs. PutsText a b result s t (record_text fs)) has.whole puts
