use Rattle.std.proofs.Common.{refl, ◌∙◌, arith}
use Rattle.planning.proofs.Writing.{added}
use Rattle.factor_plans.proofs.Factors.{prime_call, split_call, factor_none, prime_stands, split_stands, split_value}
use Rattle.factor_plans.proofs.factoring.+factor_into.Goals as goal

pub returns-in_default-clause-table : goal.returns-in_default-clause-table
returns-in_default-clause-table t c = let e = factor_none c.args.n c.in_default.ensures.least in rw e refl

pub returns-in_default-clause-len : goal.returns-in_default-clause-len
returns-in_default-clause-len t c = let e = factor_none c.args.n c.in_default.ensures.least in rw e (omega arith)

pub factor_into-before-requires : goal.factor_into-before-requires
factor_into-before-requires t c =
    let r = prime_call c.args.n c.in-Some.p c.args.one.value c.in-Some.ensures.least c.if-p-n.true in
    (omega arith, (omega (arith, r.least.above), (omega arith, (omega arith, c.requires.number))))

pub unwrap-requires : goal.unwrap-requires
unwrap-requires t c =
    let r = prime_call c.args.n c.in-Some.p c.args.one.value c.in-Some.ensures.least c.if-p-n.true in
    let b = c.factor_into-before.ensures in
    let v = prime_stands c.args.steps.now.table.now c.factor_into-before.new.steps.table.now _ c.args.n c.args.steps.now.len c.args.one.number c.args.one.value c.factor_into-before.new.steps.len c.factor_into-before.result.number c.factor_into-before.result.value
    c.requires.low r.least c.requires.number b.table b.len b.number b.value refl in
    c.add.ensures.fits (omega (arith, b.len)) (omega (arith, v.1))

pub returns-then-p-n : goal.returns-then-p-n
returns-then-p-n t c =
    let r = prime_call c.args.n c.in-Some.p c.args.one.value c.in-Some.ensures.least c.if-p-n.true in
    let b = c.factor_into-before.ensures in
    let d = added c.unwrap.ensures c.add.ensures.written c.add.ensures.made in
    let v = prime_stands c.args.steps.now.table.now c.factor_into-before.new.steps.table.now _ c.args.n c.args.steps.now.len c.args.one.number c.args.one.value c.factor_into-before.new.steps.len c.factor_into-before.result.number c.factor_into-before.result.value
    c.requires.low r.least c.requires.number b.table b.len b.number b.value d.table in
    record { same_table = c.add.ensures.same_table ∙ b.same_table; table = v.0; len = omega (arith, d.len, b.len, r.count); number = d.number; value = d.value ∙ v.1 }

pub factor_into-at_p-requires : goal.factor_into-at_p-requires
factor_into-at_p-requires t c =
    let r = split_call c.args.n c.in-Some.p c.args.one.value c.requires.low c.in-Some.ensures.least c.if-p-n.false in
    (omega arith, (omega (arith, r.least.above), (omega arith, (omega arith, c.requires.number))))

pub factor_into-requires : goal.factor_into-requires
factor_into-requires t c =
    let r = split_call c.args.n c.in-Some.p c.args.one.value c.requires.low c.in-Some.ensures.least c.if-p-n.false in
    let b = c.factor_into-at_p.ensures in
    let v = split_value c.args.n c.in-Some.p c.args.one.value c.factor_into-at_p.result.value c.requires.low r.least b.value in
    (omega arith, (omega arith, (omega arith, (omega (arith, b.len), b.number))))

pub returns : goal.returns
returns t c =
    let r = split_call c.args.n c.in-Some.p c.args.one.value c.requires.low c.in-Some.ensures.least c.if-p-n.false in
    let b = c.factor_into-at_p.ensures in
    let w = c.factor_into.ensures in
    let v = split_value c.args.n c.in-Some.p c.args.one.value c.factor_into-at_p.result.value c.requires.low r.least b.value in
    record {
      same_table = w.same_table ∙ b.same_table;
      table =
          split_stands c.args.steps.now.table.now c.factor_into-at_p.new.steps.table.now c.factor_into.new.steps.table.now c.args.n c.in-Some.p c.args.steps.now.len c.args.one.number c.args.one.value
          c.factor_into-at_p.new.steps.len c.factor_into-at_p.result.number c.factor_into-at_p.result.value c.requires.low r.least r.less c.requires.number b.table b.len b.number b.value w.table;
      len = omega (arith, b.len, w.len, r.count);
      number = w.number;
      value = w.value ∙ v;
    }
