use Rattle.std.proofs.Common.{◌≡◌, ◌+◌, drop, length, string_bytes, ap, arith}
use Rattle.col_writer.specs.Usage.{named_bytes}
use Rattle.col_writer.proofs.PlaceLemmas.{left-next, left-none}
use Rattle.col_writer.proofs.UsageLemmas.{all-counted, counted-next}
use Rattle.col_writer.proofs.writer.mem_usage.columns_bytes.Goals as goal

pub loop-name-preserved : goal.loop-name-preserved
loop-name-preserved g c =
    let e = c.loop-name-item.result in
    let name : c.len.result ≡ length (string_bytes e.0) = omega (arith, c.len.ensures, e.0.bytes.ok.0) in
    counted-next g.C.RecordBytes.bytes e (drop c.loop-name.name-index c.args.columns.now)
    (drop (c.loop-name.name-index + 1) c.args.columns.now) c.loop-name.bytes c.len.result c.num_bytes.result
    c.saturating_add.result c.saturating_add-bytes.result (named_bytes g.C.RecordBytes.bytes c.args.columns.now)
    (left-next c.args.columns.now c.as_slice-name-items.result.now c.loop-name.name-index e c.as_slice-name-items.ensures
    c.loop-name-test.true c.loop-name-item.is)
    c.loop-name.invariant name c.num_bytes.ensures c.saturating_add.ensures c.saturating_add-bytes.ensures

pub returns-clause-bytes : goal.returns-clause-bytes
returns-clause-bytes g c =
    all-counted c.loop-name.bytes _ _ c.loop-name.invariant
    (ap (named_bytes g.C.RecordBytes.bytes) (left-none c.args.columns.now c.as_slice-name-items.result.now
    c.loop-name.name-index c.as_slice-name-items.ensures c.loop-name-test.false))
