use Rattle.std.proofs.Common.{◌≡◌, ℕ, ◌-◌, List, Some, None, IfSome, slice_range, sym, ap, ◌∙◌, subst, arith}
use Rattle.col_common.specs.Decoding.{Decodes}
use Rattle.col_keys.specs.Footers.{footer_of}
use Rattle.col_model.specs.Keys.{file_footer}
use Rattle.col_file.specs.Ends.{keys_behind}
use Rattle.col_file.proofs.EndLemmas.{told-too_short, told-no_footer, told-no_table, told-read, told-same, answers-keys, answer-within}
use Rattle.col_file.proofs.reading.read_keys.Goals as goal

pub returns-then-len-lt-FOOTER_NUM_BYTES-clause-answer : goal.returns-then-len-lt-FOOTER_NUM_BYTES-clause-answer
returns-then-len-lt-FOOTER_NUM_BYTES-clause-answer g c =
    let seen = g.F.FileHandle.seen c.args.file.now in
    told-too_short seen (g.met.F.FileHandle.told_whole c.args.file.now) (omega arith)

pub returns-in_default-clause-answer : goal.returns-in_default-clause-answer
returns-in_default-clause-answer g c =
    let seen = g.F.FileHandle.seen c.args.file.now in
    let len = c.len-len.result in
    let footer = c.in_ok-footer.footer in
    let none : file_footer footer ≡ None = ap file_footer (sym c.as_slice.ensures) ∙ sym c.in_default.ensures in
    told-no_footer seen (g.met.F.FileHandle.told_whole c.args.file.now)
    (len - 20) len footer (omega arith) (omega arith) c.in_ok-footer.ensures.bytes none

pub returns-then-rest_len-footer-clause-answer : goal.returns-then-rest_len-footer-clause-answer
returns-then-rest_len-footer-clause-answer g c =
    let seen = g.F.FileHandle.seen c.args.file.now in
    let len = c.len-len.result in
    let footer = c.in_ok-footer.footer in
    let f = footer_of c.in-Some.footer in
    let read : file_footer footer ≡ Some f = ap file_footer (sym c.as_slice.ensures) ∙ sym c.in-Some.ensures in
    told-no_table seen (g.met.F.FileHandle.told_whole c.args.file.now)
    (len - 20) len footer (omega arith) (omega arith) c.in_ok-footer.ensures.bytes f read c.if-rest_len-footer.true

pub returns-clause-answer : goal.returns-clause-answer
returns-clause-answer g c =
    let seen = g.F.FileHandle.seen in
    let file = seen c.args.file.now in
    let len = c.len-len.result in
    let footer = c.in_ok-footer.footer in
    let f = footer_of c.in-Some.footer in
    let read : file_footer footer ≡ Some f = ap file_footer (sym c.as_slice.ensures) ∙ sym c.in-Some.ensures in
    let rest = len - 20 in
    let body = rest - f.table_length in
    let table = c.in_ok-table.table in
    let tabled : IfSome file.told (λ bytes. table ≡ slice_range bytes body rest) =
    told-same (λ bytes. table ≡ slice_range bytes body rest) (seen c.read_part.new.file).told file.told
    c.in_ok-footer.ensures.file.told c.in_ok-table.ensures.bytes in
    let expected = told-read file (g.met.F.FileHandle.told_whole c.args.file.now) rest len
    footer (omega arith) (omega arith) c.in_ok-footer.ensures.bytes f read body table (omega arith) tabled in
    answers-keys file (seen c.read_part-2.new.file) (keys_behind f body table) c.keys_of.result expected
    (subst (λ (t : List ℕ). Decodes (λ k. k) c.keys_of.result (keys_behind f body t)) c.as_slice-2.ensures c.keys_of.ensures)

pub returns-clause-within : goal.returns-clause-within
returns-clause-within g c =
    let f = footer_of c.in-Some.footer in
    answer-within f (c.len-len.result - 20 - f.table_length) (g.F.FileHandle.seen c.args.file.now).size
    c.as_slice-2.result.now c.keys_of.result (omega arith) c.keys_of.ensures
