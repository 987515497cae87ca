use Rattle.std.proofs.Common.{◌≡◌, ℕ, ◌*◌, ◌%◌, ◌<◌, ◌≤◌, arith}
use Rattle.factor_plans.specs.Divisors.{Least}
use Rattle.factor_plans.proofs.Divisors.{least_here, least_beyond, least_some}
use Rattle.factor_plans.proofs.divisor.least_divisor.Goals as goal

pub returns-in-Some : goal.returns-in-Some
returns-in-Some c =
    let a : Least c.args.n c.in-Some.d = least_here c.args.n c.in-Some.d c.in-Some.ensures.0 c.in-Some.ensures.2 c.in-Some.ensures.3 (omega arith) in
    record { answer = least_some c.args.n c.in-Some.d (omega arith) a; least = a }

pub returns-in_default : goal.returns-in_default
returns-in_default c =
    let a : Least c.args.n c.args.n = least_beyond c.args.n c.in-Some.d (omega arith) c.in-Some.ensures.3 (omega arith) in
    record { answer = least_some c.args.n c.args.n (omega arith) a; least = a }

pub returns-in_default-2 : goal.returns-in_default-2
returns-in_default-2 c =
    let a : Least c.args.n c.args.n = least_beyond c.args.n 4294967296 (omega arith) c.in_default.ensures (omega (arith, c.ranges.n.fits)) in
    record { answer = least_some c.args.n c.args.n (omega arith) a; least = a }
