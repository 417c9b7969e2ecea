-- A line with the width of the offsets from it.
use Rattle.col_model.specs.U64List.{LinearParams as LineAndWidth}
use Rattle.col_codecs.specs.declared.line.Line.{Line}
use Rattle.col_codecs.specs.declared.linear_params.LinearParams.{LinearParams}

-- a line, of which no width is known
abbrev pub bare_params : Line → LineAndWidth
bare_params l = record { slope = l.slope; intercept = l.intercept; offset_width = 0 }

-- the line and the width that are held
abbrev pub params_seen : LinearParams → LineAndWidth
params_seen s =
    record { slope = s.line.slope; intercept = s.line.intercept; offset_width = s.offset_width }
