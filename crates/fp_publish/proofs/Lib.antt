pub mod FrontLemmas
pub mod RuleLemmas
