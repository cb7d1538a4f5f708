pub mod Holdings
pub mod Statement
pub mod Taking
pub mod Walking
