pub mod WorkedDay
