pub mod Stands
pub mod Reading
pub mod Refusals
pub mod Durable
pub mod Room
pub mod Laws
pub mod Exact
pub mod Recovered
