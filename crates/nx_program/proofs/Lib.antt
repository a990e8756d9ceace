mod CommandLemmas
mod OwnLemmas
