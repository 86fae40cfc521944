use Rattle.std.proofs.Common.{◌≡◌, drop}
use Rattle.std.specs.List.{list_all}
use Rattle.base.specs.Names.{is_one_of}
use Rattle.type_constraints.proofs.code.structs.are_named.Given as goal

abbrev pub invariant-loop-field : goal.invariant-loop-field
invariant-loop-field l = list_all (λ f. is_one_of l.names f.name) l.fields ≡ list_all (λ f. is_one_of l.names f.name) (drop l.field-index l.fields)
