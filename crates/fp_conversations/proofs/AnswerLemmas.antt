-- Answers as they are said.
use Rattle.std.proofs.Common.{◌≡◌, ℕ, List, Option, true, refl, inl, inr}
use Rattle.fp_session.specs.Reply as flags
use Rattle.fp_streams.specs.Said.{AppendsLine}
use Rattle.fp_conversations.specs.Answers.{Answer, reply, IsSaid, only_refuses, answer_text}

pub said-whole : (a : Answer) (before held : Option (List ℕ)) → AppendsLine before held (answer_text a) → IsSaid a before held
said-whole a before held line = record { shown = a; like = inl refl; line = line }

pub said-wanting : (r : flags.Reply) (before held : Option (List ℕ)) → only_refuses r ≡ true →
    AppendsLine before held (answer_text (reply flags.out_of_memory)) → IsSaid (reply r) before held
said-wanting r before held refuses line = record { shown = reply flags.out_of_memory; like = inr (refuses, refl); line = line }
