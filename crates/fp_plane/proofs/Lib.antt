pub mod PlaneCrossing
pub mod Spawning
pub mod StoreCrossing
mod HalfLemmas
mod LyingLemmas
pub mod Steps
