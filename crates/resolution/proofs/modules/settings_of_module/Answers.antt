use Rattle.std.proofs.Common.{◌<◌, length, sym, ap, ◌∙◌, arith}
use Rattle.resolution.specs.declared.owners.Owner.{Owner}
use Rattle.resolution.specs.OwnersSoFar.{blocks_before}
use Rattle.resolution.specs.Parts.{here_of}
use Rattle.resolution.proofs.PartLaws.{owner_of_number, owners_length}
use Rattle.resolution.proofs.modules.settings_of_module.Goals as goal

pub bounds-owners-context : goal.bounds-owners-context
bounds-owners-context c =
    let w = here_of c.args.context.now in
    let n = owners_length w (blocks_before w w.members) c.args.owners.now c.requires in
    omega arith

pub bounds-owners-context-2 : goal.bounds-owners-context-2
bounds-owners-context-2 c =
    let w = here_of c.args.context.now in
    let n = owners_length w (blocks_before w w.members) c.args.owners.now c.requires in
    omega arith

pub returns : goal.returns
returns c =
    let w = here_of c.args.context.now in
    let os = c.args.owners.now in
    let o = c.index-owners-context.result in
    let n = owners_length w (blocks_before w w.members) os c.requires in
    let within : length w.members < length os = omega arith in
    let after = owner_of_number w w.members os (length w.members) o c.requires within c.index-owners-context.is in
    ap (λ (x : Owner). x.settings) (sym c.index-owners-context.is) ∙ after.settings
