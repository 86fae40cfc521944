use Rattle.term_pool.proofs.GrowthLemmas.{if_ok}
use Rattle.ematching.specs.Numbers.{term_at, formula_at}
use Rattle.ematching.proofs.SaidLemmas.{read_instance}
use Rattle.ematching.proofs.instances.made.renamed.Goals as goal

pub returns-clause-is : goal.returns-clause-is
returns-clause-is c =
    if_ok c.intern_formula.result (λ k made. read_instance c.intern_formula.new.pool c.args.universal.variable (term_at c.args.pool.now c.args.term) c.in_ok-value.value (formula_at c.args.pool.now c.args.universal.body) c.in_ok-body.body c.in_ok-made.made k c.in_ok-value.ensures c.in_ok-body.ensures made c.in_ok-made.ensures.instance) c.intern_formula.ensures.is
