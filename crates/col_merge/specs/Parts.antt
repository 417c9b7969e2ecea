-- The parts that readers tell.
use Rattle.std.specs.Prelude.{List, Option}
use Rattle.col_common.specs.Reading.{◌>>=◌}
use Rattle.col_model.specs.File.{Part, parts_of, for_each}
use Rattle.col_file.specs.Readers.{SeenReader}

-- the part that a file has, where the reader tells its bytes
abbrev pub told_part : SeenReader → Option Part
told_part r = r.file.told >>= parts_of

-- the parts of all files, where all readers tell
abbrev pub told_parts : List SeenReader → Option (List Part)
told_parts rs = for_each told_part rs
