use Rattle.col_csv_export.proofs.BlockLemmas.{style-plain, text-more}
use Rattle.col_csv_export.proofs.blocks.write_row.Goals as goal

pub returns : goal.returns
returns c = λ text has.
    text-more _ _ text _ has (c.in-Ok.ensures.bytes has.fields has.clean (style-plain _ text has)) c.in-Ok.ensures.setup
    c.in-Ok.ensures.ended c.in-Ok.ensures.clean
