use Rattle.std.proofs.Common.{arith}
use Rattle.col_compact.proofs.LookupLemmas.{IsReadAt, code_read}
use Rattle.col_compact.proofs.decompressor.CompactSpaceDecompressor.get_compact.Goals as goal

is : (c : goal.After-get) → IsReadAt c.args.self.now c.args.idx c.get.result
is c =
    code_read c.self.inside.params c.self.inside.data c.as_slice.result.now c.args.self.now c.bit_unpacker.result
    c.args.idx c.get.result c.self.view_is c.self.invariant c.as_slice.ensures c.bit_unpacker.ensures.value
    c.get.ensures.value c.requires

pub overflow_cast-result : goal.overflow_cast-result
overflow_cast-result c = let h = (is c).fits in omega (arith, h)

pub returns-clause-value : goal.returns-clause-value
returns-clause-value c = (is c).value

pub returns-clause-first : goal.returns-clause-first
returns-clause-first c = (is c).first

pub returns-clause-last : goal.returns-clause-last
returns-clause-last c = (is c).last
