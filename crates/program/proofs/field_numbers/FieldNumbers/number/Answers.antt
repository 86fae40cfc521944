use Rattle.std.proofs.Common.{◌∙◌, sym}
use Rattle.program.proofs.NumberLemmas.{no_struct, at_struct, no_table}
use Rattle.program.proofs.field_numbers.FieldNumbers.number.Goals as goal

pub returns-in-Some-get : goal.returns-in-Some-get
returns-in-Some-get c =
    let is = at_struct c.args.structs.now c.args.self.now.structs.items c.deref.result.now c.args.owner.now c.args.name.now c.in-Some.index c.in-Some-get.numbers.now c.requires (sym c.in-Some.ensures) c.deref.ensures.value c.in-Some-get.ensures.lookup.1 in
    c.copied.ensures ∙ c.get-in-Some-get.ensures ∙ is

pub returns-in-None-get : goal.returns-in-None-get
returns-in-None-get c = no_table c.args.structs.now c.args.self.now.structs.items c.deref.result.now c.args.owner.now c.args.name.now c.in-Some.index c.requires (sym c.in-Some.ensures) c.deref.ensures.value c.in-None-get.ensures.lookup.3

pub returns-in-None : goal.returns-in-None
returns-in-None c = sym (no_struct c.args.structs.now c.args.owner.now c.args.name.now (sym c.in-None.ensures))
