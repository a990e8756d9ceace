mod AddLemmas
