-- Texts of a report, put piece by piece: what holds of lists of bytes holds of what was put.
use Rattle.std.proofs.Common.{◌≡◌, ◌∙◌, ℕ, List, [], ◌++◌, take, Option, Some, None, option_map, Result, Ok, Err, OnOk, refl, sym, ap, subst, append-nil}
use Rattle.serde_json.specs.Data.{Data}
use Rattle.serde_json.specs.Written.{compact_text}
use Rattle.col_program.specs.Report.{lines_text, Prints}
use Rattle.col_common.specs.Outside.{SeenSink, Told, Appends, WriteAppends}
use Rattle.col_common.specs.declared.outside.HandleError.{HandleError}
use Rattle.col_common.specs.declared.outside.HandleError.TheVariants.{Failed, Memory}
use Rattle.col_print.specs.Puts.{SeenOut, HasPut, Puts}
use Rattle.col_print.proofs.PutsLemmas.{puts_none, puts_then, puts_as, put_nothing}
use Rattle.col_report.specs.Printed.{Spells, PutsData, PutsLines}

-- ---- values

-- a list that grows by a value's text
pub spelled : (a : List ℕ) (d : Data) → Spells a (a ++ compact_text d) d
unfolding Spells
spelled a d = refl

-- the text of a value as a piece
pub bare : (a b : SeenOut) (d : Data) → PutsData a b d → Puts a b (compact_text d)
unfolding PutsData
bare a b d put = put

-- pieces that are a value's text
pub data-put : (a b : SeenOut) (s : List ℕ) (d : Data) → Spells [] s d → Puts a b s → PutsData a b d
unfolding Spells PutsData
data-put a b s d is put = puts_as a b _ _ is put

-- ---- lines

-- a list that grows by the text of lines
pub printed : (a : List ℕ) (ds : List Data) → Prints a (a ++ lines_text ds) ds
unfolding Prints
printed a ds = refl

-- the text of lines as a piece
pub bare-lines : (a b : SeenOut) (ds : List Data) → PutsLines a b ds → Puts a b (lines_text ds)
unfolding PutsLines
bare-lines a b ds put = put

-- pieces that are the text of lines
pub lines-put : (a b : SeenOut) (s : List ℕ) (ds : List Data) → Prints [] s ds → Puts a b s → PutsLines a b ds
unfolding Prints PutsLines
lines-put a b s ds is put = puts_as a b _ _ is put

-- no lines
pub puts-no_lines : (a : SeenOut) → PutsLines a a []
unfolding PutsLines
puts-no_lines a = puts_none a

-- ---- the start and the end

-- what was put from nothing on
pub from_nothing : (n : ℕ) (s : SeenSink) (a b : SeenOut) (text : List ℕ) → a ≡ record { place = n; sink = s; pending = []; ended = Ok tt }
    → Puts a b text → HasPut s b text
unfolding Puts
from_nothing n s a b text is put =
    let behind : Puts record { place = n; sink = s; pending = []; ended = Ok tt } b text = subst (λ (a : SeenOut). Puts a b text) is put in
    behind.1 s [] (put_nothing n s)

-- a sink that doesn't tell what it holds, and took something, told nothing before
untold-before : (a b : Told) (text : List ℕ) → b ≡ None → b ≡ option_map (λ held. held ++ text) a → b ≡ a
untold-before None b text none grew = none
untold-before (Some held) b text none grew = absurd (cc)

-- where nothing is pending, what was put is what the sink took
pub all-written : (n : ℕ) (start s : SeenSink) (pending text : List ℕ) (e : Result (Unit {0}) HandleError)
    → HasPut start record { place = n; sink = s; pending = pending; ended = e } text → OnOk e (pending ≡ [])
    → (e ≡ Err Memory → s.written ≡ None) → WriteAppends start s e text
all-written n start s pending text (Ok done) put none memory =
    subst (Appends start s) (sym (append-nil put.whole.0) ∙ ap (λ p. put.whole.0 ++ p) (sym none) ∙ put.whole.2) put.whole.1
all-written n start s pending text (Err Failed) put none memory = put.part
all-written n start s pending text (Err Memory) put none memory =
    untold-before start.written s.written (take put.part.0 text) (memory refl) put.part.1
