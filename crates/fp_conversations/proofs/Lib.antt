mod AnswerLemmas
mod EditingLemmas
mod OutcomeLemmas
mod SendingLemmas
