use Rattle.std.proofs.Common.{rules, inl, inr}
use Rattle.fp_http.proofs.Gathered.{ended, failed, more, within}
use Rattle.fp_http.proofs.gathering.GatheringFuture.poll.Goals as goal

pub returns-in-loop-clause-same : goal.returns-in-loop-clause-same
returns-in-loop-clause-same g c = λ r h. elim h [
  | inl k ↦ inl (c.loop.invariant.2 r (within (g.T.Body.yields c.loop.self.body) c.loop.self.«data».items
      (g.T.Body.yields c.poll_frame.new.self) r (search rules) k))
  | inr k ↦ inr k
]

pub returns-in-Some-Err-clause-value : goal.returns-in-Some-Err-clause-value
returns-in-Some-Err-clause-value g c =
    inl (c.loop.invariant.2 _ (failed (g.T.Body.yields c.loop.self.body) c.loop.self.«data».items c.in-Some-Err.fault (search rules)))

pub returns-in-None-clause-value : goal.returns-in-None-clause-value
returns-in-None-clause-value g c =
    inl (c.loop.invariant.2 _ (ended (g.T.Body.yields c.loop.self.body) c.loop.self.«data».items c.replace-all.result
    (search rules) (search rules)))

pub loop-preserved : goal.loop-preserved
loop-preserved g c = (
  search rules,
  search rules,
  λ r h. c.loop.invariant.2 r (more (g.T.Body.yields c.loop.self.body) c.loop.self.«data».items
      (g.T.Body.yields c.poll_frame.new.self) _ c.in-Some-Ok.frame r (search rules) (search rules) h),
)

pub returns-clause-same : goal.returns-clause-same
returns-clause-same g c = rw c.yield_now.ensures.pending (λ r h. elim h [ inl k ↦ inl (c.loop.invariant.2 r k) | inr k ↦ inr k ])
