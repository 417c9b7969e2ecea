use Rattle.col_csv_fields.proofs.HeadingLemmas.{no-parts, parts-found}
use Rattle.col_csv_fields.proofs.heading.split_at_colon.Goals as goal

pub returns-in_err-end : goal.returns-in_err-end
returns-in_err-end c =
    rw c.from_residual.ensures
    (no-parts c.args.heading.now c.place_of_colon.result c.place_of_colon.ensures.place c.in_err-end.was)

pub returns : goal.returns
returns c =
    parts-found c.args.heading.now c.place_of_colon.result c.in_ok-end.end c.place_of_colon.ensures.place c.in_ok-end.was
