pub mod Board
pub mod Evaluator
pub mod Fronts
pub mod Rule
pub mod Seats
