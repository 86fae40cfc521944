use Rattle.std.proofs.Common.{[], ◌∷◌, sym, subst}
use Rattle.base.specs.Pairs.{Paired}
use Rattle.resolution.specs.Items.{HasUnknownInForm}
use Rattle.resolution.specs.Parts.{IsBareAs, here_of}
use Rattle.resolution.specs.Programs.{form_declaration}
use Rattle.resolution.proofs.KnownLaws.{bare_struct_known}
use Rattle.resolution.proofs.parts.own_simple.Goals as goal

pub returns-in_ok-own_struct-in-Struct-clause-part : goal.returns-in_ok-own_struct-in-Struct-clause-part
returns-in_ok-own_struct-in-Struct-clause-part c = λ n loops.
    let w = here_of c.args.context.now in
    subst (λ form. Paired IsBareAs (form_declaration w n form loops) (c.in_ok-own_struct-in-Struct.field-0 ∷ [])) (sym c.in-Struct.is) (c.in_ok-own_struct-in-Struct.ensures.resolved n, tt)

pub returns-in_ok-own_struct-in-Struct-clause-known : goal.returns-in_ok-own_struct-in-Struct-clause-known
returns-in_ok-own_struct-in-Struct-clause-known c = λ before h.
    let w = here_of c.args.context.now in
    bare_struct_known w 0 c.in-Struct.tree c.in_ok-own_struct-in-Struct.field-0.form (c.in_ok-own_struct-in-Struct.ensures.resolved 0) (subst (λ form. HasUnknownInForm w before form) c.in-Struct.is h)
