mod RiseLemmas
