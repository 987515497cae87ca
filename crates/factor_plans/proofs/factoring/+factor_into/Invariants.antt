use Rattle.factor_plans.proofs.factoring.+factor_into.Given as goal

abbrev pub decreases-factor_into : goal.decreases-factor_into
decreases-factor_into l = l.n
