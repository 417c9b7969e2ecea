-- Refusals of objects in memory.
use Rattle.col_common.specs.declared.error.ColumnarError.{ColumnarError}
use Rattle.col_common.specs.declared.error.ColumnarError.TheVariants.{OutOfMemory, ReadFault, WriteFault}

-- bytes in memory refuse a read or a write for want of memory alone
abbrev pub in_memory_alone : ColumnarError → ColumnarError
in_memory_alone ReadFault = OutOfMemory
in_memory_alone WriteFault = OutOfMemory
in_memory_alone e = e
