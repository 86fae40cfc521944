use Rattle.tree_checks.proofs.grown.keeping.nothing_kept.Goals as goal

pub returns : goal.returns
returns c = λ ns es. record { above = c.new.ensures ns es; state = c.new-2.ensures ns; heads = c.new-3.ensures ns; quantifiers = c.new-4.ensures ns }
