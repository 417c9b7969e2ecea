use Rattle.col_tool.proofs.Left.{delivers_front, delivers_nothing, delivers_part, delivers_whole}
use Rattle.col_tool.proofs.delivery.deliver.Goals as goal

pub returns-in-Err-Failed-clause-delivers : goal.returns-in-Err-Failed-clause-delivers
returns-in-Err-Failed-clause-delivers g c =
    let front = rw (c.in-Err-Failed.field-0-is, c.as_slice.ensures) at c.in-Err-Failed.ensures.appended in
    delivers_front _ _ _ _ _ front

pub returns-in-Err-Memory-clause-delivers : goal.returns-in-Err-Memory-clause-delivers
returns-in-Err-Memory-clause-delivers g c =
    let same = rw c.in-Err-Memory.field-0-is at c.in-Err-Memory.ensures.appended in
    delivers_nothing _ _ _ _ _ same

pub returns-in-Err-Failed-print-clause-delivers : goal.returns-in-Err-Failed-print-clause-delivers
returns-in-Err-Failed-print-clause-delivers g c =
    let first = rw c.as_slice.ensures at c.in-Ok.ensures.appended in
    let second = rw c.in-Err-Failed-print.field-0-is at c.in-Err-Failed-print.ensures.appended in
    delivers_part _ _ _ _ _ _ first second

pub returns-clause-delivers : goal.returns-clause-delivers
returns-clause-delivers g c =
    let first = rw c.as_slice.ensures at c.in-Ok.ensures.appended in
    delivers_whole _ _ _ _ _ _ first
