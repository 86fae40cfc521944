use Rattle.axiom_instances.proofs.field_types.put.+put_arguments.Given as goal

abbrev pub decreases-put_arguments : goal.decreases-put_arguments
decreases-put_arguments l = l.from
