use Rattle.std.proofs.Common.{sym, ◌∙◌, ◌++◌, [], append-nil, ap}
use Rattle.col_print.proofs.PutsLemmas.{puts_then, puts_stopped, puts_written, puts_held, extended, after_ok}
use Rattle.col_print.proofs.through.Through.put_behind.Goals as goal

pub returns-then-is_err : goal.returns-then-is_err
returns-then-is_err g c =
    puts_then _ _ _ [] c.args.bytes.now c.flush.ensures.puts
    (puts_stopped _ _ _ _ c.args.bytes.now (sym c.is_err.ensures.value ∙ c.if-is_err.true))

pub returns-then-lacks_room : goal.returns-then-lacks_room
returns-then-lacks_room g c =
    let fine = sym c.is_err.ensures.value ∙ c.if-is_err.false in
    let none = after_ok _ fine c.flush.ensures.none in
    let bytes = c.args.bytes.now in
    puts_then _ _ _ [] bytes c.flush.ensures.puts
    (puts_written _ _ _ _ bytes _ bytes _ c.write_all-self.result fine
    (ap (λ p. p ++ bytes) none ∙ sym (append-nil bytes) ∙ ap (λ q. bytes ++ q) (sym none))
    c.write_all-self.ensures.appended c.write_all-self.ensures.cause)

pub returns : goal.returns
returns g c =
    puts_then _ _ _ [] c.args.bytes.now c.flush.ensures.puts
    (puts_held _ _ _ _ _ c.args.bytes.now (sym c.is_err.ensures.value ∙ c.if-is_err.false)
    (extended _ _ c.flush.new.self.buffer.now.items c.args.bytes.now (sym c.is_err-2.ensures.value ∙ c.if-is_err-2.false)
    c.extend_from_slice.ensures.items))
