mod GroupLemmas
mod StampLemmas
mod StepLemmas
