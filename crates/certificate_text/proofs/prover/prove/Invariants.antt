use Rattle.certificate_text.proofs.prover.prove.Given as goal

abbrev pub ghost-search : goal.ghost-search
ghost-search g a = g.sought
