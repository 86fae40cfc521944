use Rattle.certificates.specs.Branch.{entry_formula}
use Rattle.certificates.proofs.BranchLemmas.{cut}
use Rattle.certificates.proofs.branch.Branch.truncate.Goals as goal

pub returns-clause-entries : goal.returns-clause-entries
returns-clause-entries c = cut entry_formula c.args.self.now.positions c.args.count c.args.self.now.count c.requires.within
