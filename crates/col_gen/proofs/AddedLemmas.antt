-- What is appended, line by line and by documents and segments.
use Rattle.std.proofs.Common.{◌≡◌, ◌∙◌, ℕ, suc, ◌+◌, ◌%◌, List, [], ◌∷◌, ◌++◌, Result, OnOk, refl, ap, ap₂, subst}
use Rattle.std.proofs.lemmas.Bool.{ne_eqb}
use Rattle.serde_json.specs.Data.{Data}
use Rattle.col_program.specs.Report.{Prints}
use Rattle.col_program.specs.GenScript.{Drawn, drawn, draw_of, with_lines, value_data, size_line, city_lines, delta_line, on_line, addr_lines, delta_lines, doc_lines, docs_lines, segment_lines, find_data, lookup_lines, gen_script}
use Rattle.col_program.proofs.ReportLaws.{Prints-none, Prints-then}
use Rattle.col_gen.specs.Generated.{segment_line, Adds, IsSized}

-- lines, and the state behind them
pub added : (a b : List ℕ) (y : ℕ) (p : Drawn) → Prints a b p.0 → y ≡ p.1 → Adds a b y p
unfolding Prints Adds
added a b y p lines state = (lines, state)

pub lines-of : (a b : List ℕ) (y : ℕ) (p : Drawn) → Adds a b y p → Prints a b p.0
unfolding Prints Adds
lines-of a b y p h = h.0

pub state-of : (a b : List ℕ) (y : ℕ) (p : Drawn) → Adds a b y p → y ≡ p.1
unfolding Adds
state-of a b y p h = h.1

-- What is left to append to b, so that p0 was appended to a.
unfoldable pub Rest : List ℕ → Drawn → List ℕ → Drawn → Type 0
Rest a p0 b p = (c : List ℕ) (z : ℕ) → Adds b c z p → Adds a c z p0

pub rest-start : (a : List ℕ) (p : Drawn) → Rest a p a p
unfolding Rest
rest-start a p = λ c z h. h

pub rest-end : (a b : List ℕ) (p0 : Drawn) (y : ℕ) → Rest a p0 b ([], y) → Adds a b y p0
unfolding Rest
rest-end a b p0 y rest = rest b y (added b b y ([], y) (Prints-none b) refl)

-- a part is added in front of what is left
part-before : (a b c : List ℕ) (y z : ℕ) (part : Drawn) (next : ℕ → Drawn) → Adds a b y part → Adds b c z (next y)
    → Adds a c z (with_lines part.0 (next part.1))
part-before a b c y z part next first second =
    let same : next y ≡ next part.1 = ap next (state-of a b y part first) in
    added a c z (with_lines part.0 (next part.1))
    (Prints-then a b c part.0 (next part.1).0 (lines-of a b y part first) (rw (← same) (lines-of b c z (next y) second)))
    (rw (← same) (state-of b c z (next y) second))

rest-step : (a0 a b : List ℕ) (p0 : Drawn) (y : ℕ) (part : Drawn) (next : ℕ → Drawn)
    → Rest a0 p0 a (with_lines part.0 (next part.1)) → Adds a b y part → Rest a0 p0 b (next y)
unfolding Rest
rest-step a0 a b p0 y part next rest first = λ c z second. rest c z (part-before a b c y z part next first second)

-- ---- values of a document's delta

-- before the first delta all are left
pub deltas-start : (a : List ℕ) (d m n x : ℕ) → m ≡ n → Rest a (delta_lines d n x) a (delta_lines d m x)
deltas-start a d m n x same = rw same (rest-start a (delta_lines d n x))

-- the next delta, drawn and printed, is one less that is left
pub deltas-more : (a0 a b : List ℕ) (p0 : Drawn) (d m k x y v : ℕ) → m ≡ suc k → y ≡ drawn x → v ≡ draw_of (drawn x)
    → Rest a0 p0 a (delta_lines d m x) → Prints a b (delta_line d v ∷ []) → Rest a0 p0 b (delta_lines d k y)
deltas-more a0 a b p0 d m k x y v more state value rest line =
    rest-step a0 a b p0 y (delta_line d (draw_of (drawn x)) ∷ [], drawn x) (delta_lines d k) (rw more at rest)
    (added a b y (delta_line d (draw_of (drawn x)) ∷ [], drawn x) (rw value at line) state)

-- where no delta is left, all were appended
pub deltas-none : (a b : List ℕ) (p0 : Drawn) (d m y : ℕ) → m ≡ 0 → Rest a p0 b (delta_lines d m y) → Adds a b y p0
deltas-none a b p0 d m y none rest = rest-end a b p0 y (rw none at rest)

-- ---- documents

-- before the first document all are left
pub docs-start : (a : List ℕ) (d m n x : ℕ) → m ≡ n → Rest a (docs_lines n d x) a (docs_lines m d x)
docs-start a d m n x same = rw same (rest-start a (docs_lines n d x))

-- the next document's lines are one document less that is left
pub docs-more : (a0 a b : List ℕ) (p0 : Drawn) (d e m k x y : ℕ) → m ≡ suc k → e ≡ d + 1
    → Rest a0 p0 a (docs_lines m d x) → Adds a b y (doc_lines d x) → Rest a0 p0 b (docs_lines k e y)
docs-more a0 a b p0 d e m k x y more next rest first =
    rw next (rest-step a0 a b p0 y (doc_lines d x) (docs_lines k (d + 1)) (rw more at rest) first)

-- where no document is left, all were appended
pub docs-none : (a b : List ℕ) (p0 : Drawn) (d m y : ℕ) → m ≡ 0 → Rest a p0 b (docs_lines m d y) → Adds a b y p0
docs-none a b p0 d m y none rest = rest-end a b p0 y (rw none at rest)

-- ---- segments

-- a segment's line, and its documents behind it, are the segment
pub segment-added : (a b c : List ℕ) (y : ℕ) (n : ℕ) (p : Drawn) → Prints a b (segment_line n ∷ []) → Adds b c y p
    → Adds a c y (with_lines (segment_line n ∷ []) p)
segment-added a b c y n p line docs =
    added a c y (with_lines (segment_line n ∷ []) p)
    (Prints-then a b c (segment_line n ∷ []) p.0 line (lines-of b c y p docs)) (state-of b c y p docs)

-- before the first segment all are left
pub segments-start : (a : List ℕ) (m k n x : ℕ) → m ≡ k → Rest a (segment_lines k n x) a (segment_lines m n x)
segments-start a m k n x same = rw same (rest-start a (segment_lines k n x))

-- the next segment's lines are one segment less that is left
pub segments-more : (a0 a b : List ℕ) (p0 : Drawn) (m k n x y : ℕ) → m ≡ suc k → Rest a0 p0 a (segment_lines m n x)
    → Adds a b y (with_lines (segment_line n ∷ []) (docs_lines n 0 x)) → Rest a0 p0 b (segment_lines k n y)
segments-more a0 a b p0 m k n x y more rest first =
    rest-step a0 a b p0 y (with_lines (segment_line n ∷ []) (docs_lines n 0 x)) (segment_lines k n) (rw more at rest) first

-- where no segment is left, all were appended
pub segments-none : (a b : List ℕ) (p0 : Drawn) (m n y : ℕ) → m ≡ 0 → Rest a p0 b (segment_lines m n y) → Adds a b y p0
segments-none a b p0 m n y none rest = rest-end a b p0 y (rw none at rest)

-- ---- a document: five draws, and those of its deltas

doc-printed : (a b c e f g : List ℕ) (size on : Data) (city deltas addr : List Data) → Prints a b (size ∷ [])
    → Prints b c city → Prints c e deltas → Prints e f (on ∷ []) → Prints f g addr
    → Prints a g (size ∷ (city ++ deltas ++ (on ∷ addr)))
doc-printed a b c e f g size on city deltas addr one two three four five =
    Prints-then a b g (size ∷ []) (city ++ deltas ++ (on ∷ addr)) one
    (Prints-then b e g (city ++ deltas) (on ∷ addr)
    (Prints-then b c e city deltas two three)
    (Prints-then e f g (on ∷ []) addr four five))

-- the lines of a document's columns, printed one behind another, are those of the document
pub doc-added : (a b c e f g : List ℕ) (d x sa sb sc sd se sf va vb vc ve vf : ℕ) → sa ≡ drawn x
    → va ≡ draw_of (drawn x) → sb ≡ drawn sa → vb ≡ draw_of (drawn sa) → sc ≡ drawn sb → vc ≡ draw_of (drawn sb)
    → se ≡ drawn sd → ve ≡ draw_of (drawn sd) → sf ≡ drawn se → vf ≡ draw_of (drawn se)
    → Prints a b (size_line d va ∷ []) → Prints b c (city_lines d vb) → Adds c e sd (delta_lines d (vc % 3) sc)
    → Prints e f (on_line d ve ∷ []) → Prints f g (addr_lines d vf) → Adds a g sf (doc_lines d x)
doc-added a b c e f g d x sa sb sc sd se sf va vb vc ve vf sa-is va-is sb-is vb-is sc-is vc-is se-is ve-is sf-is
    vf-is size city deltas on addr =
    let b-is : sb ≡ drawn (drawn x) = sb-is ∙ ap drawn sa-is in
    let c-is : sc ≡ drawn (drawn (drawn x)) = sc-is ∙ ap drawn b-is in
    let many : vc ≡ draw_of (drawn (drawn (drawn x))) = vc-is ∙ ap (λ s. draw_of (drawn s)) b-is in
    let three : Adds c e sd (delta_lines d (draw_of (drawn (drawn (drawn x))) % 3) (drawn (drawn (drawn x)))) = rw (many, c-is) at deltas in
    let behind = state-of c e sd _ three in
    let e-is = se-is ∙ ap drawn behind in
    added a g sf (doc_lines d x)
    (doc-printed a b c e f g _ _ _ _ _ (rw va-is at size)
    (rw (vb-is ∙ ap (λ s. draw_of (drawn s)) sa-is) at city)
    (lines-of c e sd _ three)
    (rw (ve-is ∙ ap (λ s. draw_of (drawn s)) behind) at on)
    (rw (vf-is ∙ ap (λ s. draw_of (drawn s)) e-is) at addr))
    (sf-is ∙ ap drawn e-is)

-- ---- lines that a draw decides on

-- a number that four divides gives no line of a city
pub city-none : (a : List ℕ) (d r : ℕ) → r % 4 ≡ 0 → Prints a a (city_lines d r)
city-none a d r none = rw none (Prints-none a)

-- a number that five doesn't divide gives no line of an address
pub addr-none : (a : List ℕ) (d r : ℕ) → (r % 5 ≡ 0 → ⊥) → Prints a a (addr_lines d r)
addr-none a d r none = rw (ne_eqb (r % 5) 0 none) (Prints-none a)

-- a line is another, which is the same
pub line-printed : {E : Type 0} (r : Result (Unit {0}) E) (a b : List ℕ) (line other : Data) → line ≡ other
    → OnOk r (Prints a b (line ∷ [])) → OnOk r (Prints a b (other ∷ []))
line-printed r a b line other same = subst (λ d. OnOk r (Prints a b (d ∷ []))) same

-- a line that is printed of a value is the line of an equal one
pub value-printed : {E : Type 0} (r : Result (Unit {0}) E) (a b word : List ℕ) (d : ℕ) (name : List ℕ) (v v' : Data)
    → v ≡ v' → OnOk r (Prints a b (value_data word d name v ∷ []))
    → OnOk r (Prints a b (value_data word d name v' ∷ []))
value-printed r a b word d name v v' same =
    line-printed r a b (value_data word d name v) (value_data word d name v') (ap (value_data word d name) same)

-- ---- lookups

-- a line that is printed of a lookup is the line of one with equal ends
pub find-printed :
    {E : Type 0} (r : Result (Unit {0}) E) (a b name word : List ℕ) (low high low' high' : Data) (from to : ℕ)
    → low ≡ low' → high ≡ high' → OnOk r (Prints a b (find_data name word low high from to ∷ []))
    → OnOk r (Prints a b (find_data name word low' high' from to ∷ []))
find-printed r a b name word low high low' high' from to same_low same_high =
    line-printed r a b (find_data name word low high from to) (find_data name word low' high' from to)
    (ap₂ (λ l h. find_data name word l h from to) same_low same_high)

-- four lines printed one behind another are printed together
pub four-printed : (a b c e f : List ℕ) (w x y z : Data) → Prints a b (w ∷ []) → Prints b c (x ∷ [])
    → Prints c e (y ∷ []) → Prints e f (z ∷ []) → Prints a f (w ∷ x ∷ y ∷ z ∷ [])
four-printed a b c e f w x y z one two three four =
    Prints-then a b f (w ∷ []) (x ∷ y ∷ z ∷ []) one
    (Prints-then b c f (x ∷ []) (y ∷ z ∷ []) two
    (Prints-then c e f (y ∷ []) (z ∷ []) three four))

-- ---- the script

pub sized : (o a b : List ℕ) (s k n x y : ℕ) → o ≡ [] → x ≡ n → Adds o a y (segment_lines s k x) → Prints a b lookup_lines → IsSized s k n b
unfolding Prints IsSized
sized o a b s k n x y empty start segments lookups =
    let all = Prints-then o a b (segment_lines s k x).0 lookup_lines (lines-of o a y (segment_lines s k x) segments) lookups in
    rw (start, empty) at all

pub whole : (n : ℕ) (script : List ℕ) → IsSized 8 500 n script → script ≡ gen_script n
unfolding IsSized gen_script
whole n script is = is
