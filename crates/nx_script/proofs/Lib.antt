mod Prefixes
mod SplitsIntoLemmas
mod LinesLemmas
pub mod BeforeDot
mod DocumentLines
mod ParserLemmas
pub mod ScriptLemmas
mod WholeLemmas
pub mod CutLemmas
pub mod CanComeLemmas
mod BodyLemmas
mod OneList
mod ReplyLemmas
pub mod RequestLemmas
pub mod OneRequestList
