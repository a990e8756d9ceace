mod LawLemmas
mod Law
mod MinimaLemmas
mod WalkLemmas
mod PlanLemmas
pub mod VerdictLemmas
mod EveryVerdict
mod PlanFields
mod PlanLines
pub mod OnePlan
mod PlanTexts
mod Pushed
mod GrownLemmas
mod PlanLimits
mod OneText
