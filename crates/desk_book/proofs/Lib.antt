pub mod HeadlineLemmas
pub mod RunLemmas
mod PlayEnds
mod PlayLemmas
pub mod FormedLemmas
pub mod AnsweringLemmas
mod StatementLemmas
pub mod TellingLemmas
pub mod RunLanes
pub mod LeftLemmas
pub mod LineLemmas
pub mod FormLemmas
pub mod ScriptLemmas
pub mod StopLemmas
pub mod ExactLemmas
pub mod FlatLemmas
pub mod CommandLemmas
pub mod RowLemmas
mod RowTextLemmas
pub mod OneReading
pub mod OneCommand
pub mod OneTask
mod OnceLemmas
mod ConfirmedRuns
mod KnownReplies
mod QuestionLaws
mod OneStep
pub mod ListedLemmas
pub mod CashLemmas
pub mod SummingLemmas
mod ReadEnds
mod EndsLemmas
