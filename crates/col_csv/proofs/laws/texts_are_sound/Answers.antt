use Rattle.col_csv.proofs.SoundLemmas.{are-sound}
use Rattle.col_csv.proofs.laws.texts_are_sound.Goals as goal

pub returns : goal.returns
returns c = are-sound
