mod CommandLemmas
mod LineLemmas
