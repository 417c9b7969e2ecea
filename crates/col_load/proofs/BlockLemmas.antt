-- Lines of bytes that come one behind another.
use Rattle.std.proofs.Common.{◌≡◌, ◌==◌, ℕ, false, List, [], ◌∷◌, ◌++◌, Ok, Err, refl, sym, ap, ◌∙◌, subst, arith, append-nil, append_assoc}
use Rattle.std.proofs.lemmas.List.{length-append}
use Rattle.std.proofs.lemmas.List.Elements.{All-nil, All-append}
use Rattle.std.proofs.lemmas.List.Splits.{slice_split_at, slice_split_none}
use Rattle.col_load.specs.Loads.{lines_of, documents_from}
use Rattle.col_load.specs.Loading.{HasTaken, TakesLine, LinesTaken, IsOpen, IsStop, StopsIn, forms_of}
use Rattle.col_load.specs.declared.load_error.LoadError.{LoadError}
use Rattle.col_load.specs.declared.load_error.LoadError.TheVariants.{OutOfMemory}
use Rattle.col_load.specs.declared.loader.Loader.{Loader}

-- bytes without a line feed are one line
pub one_line : (line : List ℕ) → IsOpen line → lines_of line ≡ line ∷ []
one_line line feedless = slice_split_none (λ b. b == 10) line feedless

-- a line that ends, and those behind it
line-first : (line rest : List ℕ) → IsOpen line → lines_of ((line ++ 10 ∷ []) ++ rest) ≡ line ∷ lines_of rest
line-first line rest feedless =
    ap lines_of (append_assoc line (10 ∷ []) rest) ∙ slice_split_at (λ b. b == 10) line 10 rest feedless refl

pub open_both : (a b : List ℕ) → IsOpen a → IsOpen b → IsOpen (a ++ b)
open_both a b = All-append (λ (n : ℕ). (n == 10) ≡ false) a b

-- before any bytes
pub none_taken : (loader : Loader) → LinesTaken [] [] loader loader
none_taken loader = record {
  lines = [];
  cut = λ rest. refl;
  begun = All-nil (λ (n : ℕ). (n == 10) ≡ false);
  taken = λ before had. subst (λ ls. HasTaken ls loader) (sym (append-nil before)) had;
  forms = (refl, refl);
  more = λ fits. (omega arith, fits);
}

-- one line that ends was taken, or has stopped
module _ (line : List ℕ) (old new : Loader) (feedless : IsOpen line) where
  pub line_whole : TakesLine line old new (Ok tt) → LinesTaken (line ++ 10 ∷ []) [] old new
  line_whole t = record {
    lines = line ∷ [];
    cut = λ rest. line-first line rest feedless;
    begun = All-nil (λ (n : ℕ). (n == 10) ≡ false);
    taken = λ before had. t.taken before had;
    forms = t.forms;
    more = λ fits. t.more;
  }

  pub stops_line : (e : LoadError) → TakesLine line old new (Err e) → StopsIn (line ++ 10 ∷ []) old e
  stops_line e t =
      λ before rest had. subst (λ ls. IsStop e (documents_from (forms_of old) old.skips 1 (before ++ ls)))
      (sym (line-first line rest feedless)) (t.stopped before (lines_of rest) had)

-- bytes behind those whose lines were taken
module _ (a b l : List ℕ) (old mid : Loader) (f : LinesTaken a l old mid) where
  cut-more : (rest : List ℕ) → lines_of ((a ++ b) ++ rest) ≡ f.lines ++ lines_of ((l ++ b) ++ rest)
  cut-more rest =
      ap lines_of (append_assoc a b rest) ∙ f.cut (b ++ rest)
      ∙ ap (λ bs. f.lines ++ lines_of bs) (sym (append_assoc l b rest))

  -- their lines were taken too
  pub taken_more : (m : List ℕ) (new : Loader) → LinesTaken (l ++ b) m mid new → LinesTaken (a ++ b) m old new
  taken_more m new s = record {
    lines = f.lines ++ s.lines;
    cut = λ rest. cut-more rest ∙ ap (λ ls. f.lines ++ ls) (s.cut rest)
        ∙ sym (append_assoc f.lines s.lines (lines_of (m ++ rest)));
    begun = s.begun;
    taken = λ before had. subst (λ ls. HasTaken ls new) (append_assoc before f.lines s.lines)
        (s.taken (before ++ f.lines) (f.taken before had));
    forms = (s.forms.0 ∙ f.forms.0, s.forms.1 ∙ f.forms.1);
    more = λ fits.
        let one = f.more fits in
        let two = s.more one.1 in (omega (arith, one.0, two.0, length-append f.lines s.lines), two.1);
  }

  -- they belong to the line that is begun
  pub begun_more : IsOpen b → LinesTaken (a ++ b) (l ++ b) old mid
  begun_more feedless = record {
    lines = f.lines;
    cut = cut-more;
    begun = open_both l b f.begun feedless;
    taken = f.taken;
    forms = f.forms;
    more = f.more;
  }

  -- their lines have a stop
  pub stops_more : (e : LoadError) → StopsIn (l ++ b) mid e → StopsIn (a ++ b) old e
  stops_more e s =
      λ before rest had.
      let all : (before ++ f.lines) ++ lines_of ((l ++ b) ++ rest) ≡ before ++ lines_of ((a ++ b) ++ rest) =
      append_assoc before f.lines (lines_of ((l ++ b) ++ rest)) ∙ ap (λ ls. before ++ ls) (sym (cut-more rest)) in
      subst (λ ls. IsStop e (documents_from (forms_of old) old.skips 1 ls)) all
      (subst (λ fs. IsStop e (documents_from fs old.skips 1 ((before ++ f.lines) ++ lines_of ((l ++ b) ++ rest)))) f.forms.0
      (subst (λ k. IsStop e (documents_from (forms_of mid) k 1 ((before ++ f.lines) ++ lines_of ((l ++ b) ++ rest)))) f.forms.1
      (s (before ++ f.lines) rest (f.taken before had))))

-- a stop in the first bytes
pub stops_longer : (a b : List ℕ) (old : Loader) (e : LoadError) → StopsIn a old e → StopsIn (a ++ b) old e
stops_longer a b old e s =
    λ before rest had. subst (λ bs. IsStop e (documents_from (forms_of old) old.skips 1 (before ++ lines_of bs)))
    (sym (append_assoc a b rest)) (s before (b ++ rest) had)

-- want of memory says nothing of the lines
pub stops_memory : (a : List ℕ) (old : Loader) → StopsIn a old OutOfMemory
stops_memory a old = λ before rest had. tt

-- all of a line that is begun
pub all_begun : (line : List ℕ) (loader : Loader) → IsOpen line → LinesTaken line line loader loader
all_begun line loader feedless = begun_more [] line [] loader loader (none_taken loader) feedless

-- A block that ends a line, of which the first bytes are held, and has bytes behind it.
module _ (held block ending behind : List ℕ) (feedless : IsOpen held) (cut : IsOpen ending × (block ≡ ending ++ 10 ∷ behind)) where
  parts : ((held ++ ending) ++ 10 ∷ []) ++ behind ≡ held ++ block
  parts =
      append_assoc (held ++ ending) (10 ∷ []) behind ∙ append_assoc held ending (10 ∷ behind) ∙ ap (λ bs. held ++ bs) (sym cut.1)

  module _ (old mid : Loader) where
    -- its line has stopped
    pub block_stops : (e : LoadError) → TakesLine (held ++ ending) old mid (Err e) → StopsIn (held ++ block) old e
    block_stops e t =
        subst (λ bs. StopsIn bs old e) parts
        (stops_longer ((held ++ ending) ++ 10 ∷ []) behind old e
        (stops_line (held ++ ending) old mid (open_both held ending feedless cut.0) e t))

    -- its line was taken, and one behind it has stopped
    pub block_stops_behind : (e : LoadError) → TakesLine (held ++ ending) old mid (Ok tt) → StopsIn behind mid e
        → StopsIn (held ++ block) old e
    block_stops_behind e t s =
        subst (λ bs. StopsIn bs old e) parts
        (stops_more ((held ++ ending) ++ 10 ∷ []) behind [] old mid
        (line_whole (held ++ ending) old mid (open_both held ending feedless cut.0) t) e s)

    -- its lines were taken
    pub block_taken : (left : List ℕ) (new : Loader) → TakesLine (held ++ ending) old mid (Ok tt) → LinesTaken behind left mid new
        → LinesTaken (held ++ block) left old new
    block_taken left new t s =
        subst (λ bs. LinesTaken bs left old new) parts
        (taken_more ((held ++ ending) ++ 10 ∷ []) behind [] old mid
        (line_whole (held ++ ending) old mid (open_both held ending feedless cut.0) t) left new s)

-- Some lines of the bytes were taken, and the bytes behind them are left.
pub record AreTaken (bytes left : List ℕ) (start now : Loader) : Type 0 where
  pub done : List ℕ
  pub parts : done ++ left ≡ bytes
  pub taken : LinesTaken done [] start now

module _ (bytes left : List ℕ) (start now : Loader) (had : AreTaken bytes left start now) where
  -- the line that is left
  pub last_left : IsOpen left → LinesTaken bytes left start now
  last_left feedless = subst (λ bs. LinesTaken bs left start now) had.parts (begun_more had.done left [] start now had.taken feedless)

  module _ (line behind : List ℕ) (cut : IsOpen line × (left ≡ line ++ 10 ∷ behind)) (next : Loader) where
    joined : (had.done ++ (line ++ 10 ∷ [])) ++ behind ≡ bytes
    joined =
        append_assoc had.done (line ++ 10 ∷ []) behind
        ∙ ap (λ bs. had.done ++ bs) (append_assoc line (10 ∷ []) behind ∙ sym cut.1) ∙ had.parts

    -- a line more
    pub line_more : TakesLine line now next (Ok tt) → AreTaken bytes behind start next
    line_more t = record {
      done = had.done ++ (line ++ 10 ∷ []);
      parts = joined;
      taken = taken_more had.done (line ++ 10 ∷ []) [] start now had.taken [] next (line_whole line now next cut.0 t);
    }

    -- a line that has stopped
    pub line_ends : (e : LoadError) → TakesLine line now next (Err e) → StopsIn bytes start e
    line_ends e t =
        subst (λ bs. StopsIn bs start e) joined
        (stops_longer (had.done ++ (line ++ 10 ∷ [])) behind start e
        (stops_more had.done (line ++ 10 ∷ []) [] start now had.taken e (stops_line line now next cut.0 e t)))
