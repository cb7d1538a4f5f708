pub mod ReadLemmas
mod OverFileLemmas
mod OverviewLemmas
mod PlayLemmas
mod LeftLemmas
mod MigrateLemmas
mod ReportLemmas
mod RunLemmas
mod ExplainLemmas
mod FailureLemmas
mod FindingDataLemmas
mod FindingLemmas
mod CheckLemmas
mod ServeLemmas
mod DropLemmas
mod TrialLemmas
