-- What a call makes of a text.
use Rattle.std.specs.Prelude.{◌≡◌, Option, Some, None, Result, Ok, Err}
use Rattle.col_csv.specs.declared.csv_error.CsvError.{CsvError}
use Rattle.col_csv.specs.declared.csv_error.CsvError.TheVariants.{OutOfMemory, BadCsv}

-- BadCsv comes where nothing is expected, and want of memory is no more than that. Nothing else is
-- refused.
abbrev pub IsRefused : {A : Type 0} → CsvError → Option A → Type 0
IsRefused OutOfMemory expected = Unit {0}
IsRefused BadCsv expected = expected ≡ None
IsRefused _ expected = ⊥

-- Ok is what is expected, as `view` sees it; or it is refused.
abbrev pub Makes : {A B : Type 0} → (B → A) → Result B CsvError → Option A → Type 0
Makes view (Ok found) expected = expected ≡ Some (view found)
Makes view (Err e) expected = IsRefused e expected
