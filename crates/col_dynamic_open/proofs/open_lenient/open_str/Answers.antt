use Rattle.col_dynamic.specs.Versions.{version_number}
use Rattle.col_dynamic_open.proofs.LenientLemmas.{texts-opened}
use Rattle.col_dynamic_open.proofs.open_lenient.open_str.Goals as goal

pub returns : goal.returns
returns c = texts-opened c.args.bytes (version_number c.args.format_version) c.args.num_rows c.open_bytes.result c.open_bytes.ensures
