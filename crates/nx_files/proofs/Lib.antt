mod Renewed
mod CutLemmas
