mod HeldLemmas
mod OldLemmas
