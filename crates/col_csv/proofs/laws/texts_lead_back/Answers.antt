use Rattle.col_csv.proofs.LeadBackLemmas.{lead-back}
use Rattle.col_csv.proofs.laws.texts_lead_back.Goals as goal

pub returns : goal.returns
returns c = lead-back
