pub mod CommandFaults
pub mod LineFaults
