pub mod AcceptingLemmas
pub mod HeldLemmas
pub mod KeptLemmas
pub mod TablesLemmas
mod AppendLemmas
mod CancelLemmas
mod UnderwayLemmas
mod DecisionLemmas
mod FinishLemmas
mod InstructLemmas
mod KeepsLemmas
mod NextLemmas
mod PassLemmas
mod PassSteps
mod PassWhole
mod RefusalLemmas
mod RebuildLemmas
mod ReplayLemmas
mod ReplyLemmas
mod SendingLemmas
mod SentLemmas
mod ShortLemmas
pub mod SoundLemmas
pub mod RunningLemmas
mod StepEnds
mod StepLaws
mod StepLemmas
mod TryingLemmas
mod WaitingLemmas
mod WithinLimits
pub mod KeptHistoryLemmas
mod TakenLemmas
mod TakingLemmas
