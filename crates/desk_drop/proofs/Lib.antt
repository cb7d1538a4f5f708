mod AgainLemmas
mod FolderLemmas
mod ListingLemmas
mod NameLemmas
mod OrderLemmas
mod TakingLemmas
