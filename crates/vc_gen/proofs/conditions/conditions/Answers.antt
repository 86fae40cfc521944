use Rattle.vc_gen.proofs.DecideProof.{decide_made}
use Rattle.vc_gen.proofs.KeyLemmas.{keys_made}
use Rattle.vc_gen.proofs.SupposedLemmas.{typed_made}
use Rattle.vc_gen.proofs.conditions.conditions.Goals as goal

pub returns-clause-keys : goal.returns-clause-keys
returns-clause-keys c = keys_made (λ made. made.items) c.args.function.now c.args.clauses.now c.generate.result c.generate.ensures

pub returns-clause-decide : goal.returns-clause-decide
returns-clause-decide c = decide_made (λ made. made.items) c.args.function.now c.args.clauses.now c.generate.result c.generate.ensures

pub returns-clause-typed : goal.returns-clause-typed
returns-clause-typed c = typed_made (λ made. made.items) c.args.function.now c.args.clauses.now c.generate.result c.generate.ensures
