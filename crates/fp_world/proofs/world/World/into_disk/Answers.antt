use Rattle.fp_world.proofs.world.World.into_disk.Goals as goal

pub returns-clause-outcomes : goal.returns-clause-outcomes
returns-clause-outcomes g c = rw (← c.self.view_is) (λ h o out. c.into_disk.ensures.outcomes h o out)
