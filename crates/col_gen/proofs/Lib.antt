mod AddedLemmas
