pub mod CaseLemmas
mod CommitLemmas
mod StepsLemmas
mod RuleLemmas
pub mod AtLemmas
pub mod StayingLemmas
pub mod ReadLemmas
pub mod ShowLemmas
pub mod FoundLemmas
mod RefusalLemmas
mod LookLemmas
mod ExportLemmas
mod ListedLemmas
mod PlanLemmas
mod NameLemmas
mod OrderedLemmas
mod GoneLemmas
mod EditLemmas
mod PageLemmas
mod RoomLemmas
mod LoadLemmas
mod KeepLemmas
mod StepLemmas
pub mod LogLemmas
mod TextLemmas
mod EndedLemmas
mod NamingLemmas
mod TransactLemmas
mod LoadNextLemmas
mod PrepareLemmas
mod RenameLemmas
