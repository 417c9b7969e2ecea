use Rattle.std.proofs.Common.{◌++◌, ◌∙◌, ap}
use Rattle.std.specs.Option.{option_to_list}
use Rattle.col_script.proofs.TakeLemmas.{takes-segment}
use Rattle.col_script.proofs.draft.Draft.take_segment.Goals as goal

pub returns : goal.returns
returns c =
    takes-segment c.args.self.now c.add_last.new.segments c.replace-last.new.self c.new.result c.args.num_docs
    (c.in_ok-add_last.ensures ∙ ap (λ l. c.args.self.now.earlier.items ++ option_to_list l) c.replace-last.ensures.value)
    c.replace-last.ensures.after c.new.ensures
