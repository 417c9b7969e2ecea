use Rattle.std.proofs.Common.{string_bytes, Some, None, sym, ◌∙◌, ap, option_map}
use Rattle.serde_json.specs.View.{view}
use Rattle.col_types.specs.Kinds.{kind_of}
use Rattle.col_questions.specs.Values.{ends_of}
use Rattle.col_set_script.proofs.LookLemmas.{by_parts}
use Rattle.col_set_script.proofs.set_line.read_look.Goals as goal

pub returns-in-Some-2 : goal.returns-in-Some-2
returns-in-Some-2 c =
    by_parts (view c.args.name.now) (view c.args.column_type.now) (view c.args.lo.now) (view c.args.hi.now)
    (string_bytes c.in-Some.name) (kind_of c.in-Some-as_type.column_type) (Some (ends_of c.in-Some-2.ends))
    c.in-Some.ensures c.in-Some-as_type.ensures (ap (option_map ends_of) (sym c.in-Some-2.is) ∙ c.in_ok-ends.ensures)

pub returns-in-None : goal.returns-in-None
returns-in-None c =
    by_parts (view c.args.name.now) (view c.args.column_type.now) (view c.args.lo.now) (view c.args.hi.now)
    (string_bytes c.in-Some.name) (kind_of c.in-Some-as_type.column_type) None
    c.in-Some.ensures c.in-Some-as_type.ensures (ap (option_map ends_of) (sym c.in-None.is) ∙ c.in_ok-ends.ensures)
