-- How a line is trained on a list. States docs/FORMAT.md, section 12.
use Rattle.std.specs.Prelude.{ℕ, ◌+◌, ◌-◌, ◌*◌, ◌/◌, ◌%◌, ◌^◌, ◌==◌, nat_lt, nat_le, List, length, map, slice_index, if◌then◌else◌}
use Rattle.std.specs.List.{enumerate_from}
use Rattle.col_model.specs.Stats.{least_of}
use Rattle.col_model.specs.Line.{line}

-- m less n, modulo 2 ^ 64
abbrev pub less_wrapped : ℕ → ℕ → ℕ
less_wrapped m n = (m + (2 ^ 64 - n)) % 2 ^ 64

-- the rise for each step where so many steps rise by a, in parts of 2 ^ 32; 0 where a is 2 ^ 31
-- or more
abbrev pub rise : ℕ → ℕ → ℕ
rise a steps = if nat_lt a (2 ^ 31) then a * 2 ^ 32 / steps else 0

-- the slope by which so many steps fall by a
abbrev pub fall : ℕ → ℕ → ℕ
fall a steps = if nat_lt a (2 ^ 31) then 2 ^ 64 - 1 - a * 2 ^ 32 / steps else 0

-- The slope from the first number to the last: it rises where the last lies at most 2 ^ 63 above
-- the first, modulo 2 ^ 64, and falls else.
unfoldable pub trained_slope : ℕ → ℕ → ℕ → ℕ
trained_slope first last steps =
    let up = less_wrapped last first in
    if nat_le up (2 ^ 63) then rise up steps else fall (2 ^ 64 - up) steps

-- how far each number lies above the line from 0 on, modulo 2 ^ 64
abbrev pub heights : ℕ → List (ℕ × ℕ) → List ℕ
heights slope items = map (λ p. less_wrapped p.1 (line slope 0 p.0)) items

-- the height that lies least above a mark, modulo 2 ^ 64
abbrev pub least_above : ℕ → List ℕ → ℕ
least_above mark hs = (mark + least_of (map (λ h. less_wrapped h mark) hs)) % 2 ^ 64

-- The slope and the intercept that are trained on n numbers, of which items are some, with their
-- positions: the intercept is the height that lies least above the first number less 2 ^ 32 - 1.
-- One number gives 0 and 0.
unfoldable pub trained_line : ℕ → ℕ → ℕ → List (ℕ × ℕ) → ℕ × ℕ
trained_line first last n items =
    let slope = trained_slope first last (n - 1) in
    let height = least_above (less_wrapped first (2 ^ 32 - 1)) (heights slope items) in
    if n == 1 then (0, 0) else (slope, height)

-- the slope and the intercept that are trained on a list
abbrev pub line_of : List ℕ → ℕ × ℕ
line_of xs =
    trained_line (slice_index xs 0) (slice_index xs (length xs - 1)) (length xs)
    (enumerate_from 0 xs)
