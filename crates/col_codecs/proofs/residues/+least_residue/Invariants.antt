use Rattle.col_codecs.proofs.residues.+least_residue.Given as goal

abbrev pub decreases-least_residue : goal.decreases-least_residue
decreases-least_residue l = l.modulus
