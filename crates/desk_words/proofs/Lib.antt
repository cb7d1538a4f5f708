mod CatalogueLemmas
mod CheckWords
mod ErrorLemmas
pub mod WritingLemmas
mod JournalWords
mod MigrateWords
mod NumberWords
mod ParserLemmas
mod PlainWords
mod PlayWords
mod ReportWords
mod TopicLemmas
mod WalkWords
mod WordsLemmas
