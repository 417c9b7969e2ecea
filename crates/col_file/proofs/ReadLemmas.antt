-- What several readings leave of a reader.
use Rattle.std.proofs.Common.{ℕ, ◌+◌, ◌≤◌, refl, ◌∙◌, arith}
use Rattle.col_common.specs.Causes.{Rose}
use Rattle.col_file.specs.Readers.{SeenReader, Reads}

-- a reader that stays as it is was read no more than so often
pub reads-none : (times : ℕ) (r : SeenReader) → Reads times r r
reads-none times r = record {
  file = record { told = refl; size = refl; later = omega arith; reads = omega arith; mark = refl };
  keys = refl;
}

-- reads one after another are as many as both
pub reads-then : (m n : ℕ) (a b c : SeenReader) → Reads m a b → Reads n b c → Reads (m + n) a c
reads-then m n a b c before behind = record {
  file = record {
    told = behind.file.told ∙ before.file.told;
    size = behind.file.size ∙ before.file.size;
    later = omega (arith, before.file.later, behind.file.later);
    reads = omega (arith, before.file.reads, behind.file.reads);
    mark = behind.file.mark ∙ before.file.mark;
  };
  keys = behind.keys ∙ before.keys;
}

-- reads of at most a count are of at most a greater one
pub reads-most : (m n : ℕ) (a b : SeenReader) → m ≤ n → Reads m a b → Reads n a b
reads-most m n a b few reads = record {
  file = record {
    told = reads.file.told;
    size = reads.file.size;
    later = reads.file.later;
    reads = omega (arith, few, reads.file.reads);
    mark = reads.file.mark;
  };
  keys = reads.keys;
}

-- a count that rose behind one that never falls rose
pub rose-later : (a b c : ℕ) → a ≤ b → Rose b c → Rose a c
rose-later a b c h k = omega (arith, h, k)
