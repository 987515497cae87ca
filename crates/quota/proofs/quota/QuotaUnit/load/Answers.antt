use Rattle.quota.proofs.Quotas.{refused_below}
use Rattle.quota.proofs.quota.QuotaUnit.load.Goals as goal

pub returns-clause-refused : goal.returns-clause-refused
returns-clause-refused g c = refused_below c.args.self.now c.load.new.self _ _ c.load.result c.load.ensures.refused
