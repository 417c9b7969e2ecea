use Rattle.std.proofs.Common.{inr, refl}
use Rattle.col_model.specs.Refusal.{invalid_data}
use Rattle.col_segments.proofs.AddLemmas.{no-kind}
use Rattle.col_segments.proofs.segments.Segments.apply.Goals as goal

pub returns-else-kind-eq-REPLACED : goal.returns-else-kind-eq-REPLACED
returns-else-kind-eq-REPLACED c =
    let none =
    no-kind c.args.kind c.args.bytes.now c.args.self.now c.if-kind-eq-ADDED.false c.if-kind-eq-DROPPED.false
    c.if-kind-eq-REPLACED.false in
    record { ok = tt; refused = inr (invalid_data, none, refl); kept = refl }
