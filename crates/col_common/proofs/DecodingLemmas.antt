-- What a refusal says of another reading.
use Rattle.std.proofs.Common.{◌≡◌, Option, None}
use Rattle.col_common.specs.Decoding.{Refuses}
use Rattle.col_common.specs.declared.error.ColumnarError.{ColumnarError}
use Rattle.col_common.specs.declared.error.ColumnarError.TheVariants.{OutOfMemory, InvalidData}

-- a refusal of one reading is that of another which gives nothing where the first does
pub refuses-as : {A B : Type 0} (e : ColumnarError) (x : Option A) (y : Option B) → (x ≡ None → y ≡ None) → Refuses e x → Refuses e y
refuses-as OutOfMemory x y none h = tt
refuses-as InvalidData x y none h = none h
refuses-as _ x y none h = h
