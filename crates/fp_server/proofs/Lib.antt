pub mod Asked
pub mod EndsLemmas
pub mod Shows
