use Rattle.std.proofs.Common.{[], ◌∷◌, Some, length, take, sym, ap, subst, ◌∙◌, append-nil}
use Rattle.std.proofs.lemmas.Result.{err_from_is_err_and}
use Rattle.base.specs.Pairs.{Paired}
use Rattle.syntax_tree.specs.declared.source.SourceForm.TheVariants.{Function}
use Rattle.resolution.specs.Faults.{IsFaultAmong}
use Rattle.resolution.specs.Items.{form_items}
use Rattle.resolution.specs.Owners.{block_of, member_numbers}
use Rattle.resolution.specs.Parts.{IsBareAs, IsMade, here_of}
use Rattle.resolution.specs.Programs.{form_declaration}
use Rattle.resolution.proofs.PartLaws.{owners_with, owners_without, simple_block, simple_known}
use Rattle.resolution.proofs.parts.own_form.Goals as goal

pub returns-in_err-own_function-in-Function-clause-unknown : goal.returns-in_err-own_function-in-Function-clause-unknown
returns-in_err-own_function-in-Function-clause-unknown c =
    let w = here_of c.args.context.now in
    let first = take c.args.number w.members in
    let fault = c.in_err-own_function-in-Function.field-0.0 in
    let g = subst (λ form. IsFaultAmong (form_items w first form c.args.loops.now) fault) (sym c.in-Function.is) (c.in_err-own_function-in-Function.ensures.unknown first) in
    let p = err_from_is_err_and c.from_residual.result c.from_residual.ensures.1 in
    rw (p.1, p.2) g

pub returns-in_ok-own_function-in-Function-clause-made : goal.returns-in_ok-own_function-in-Function-clause-made
returns-in_ok-own_function-in-Function-clause-made c =
    let w = here_of c.args.context.now in
    let first = take c.args.number w.members in
    let loops = c.args.loops.now in
    let d = c.in_ok-own_function-in-Function.field-0 in
    let part : Paired IsBareAs (form_declaration w c.args.number (Function c.in-Function.tree) loops) (d ∷ []) = (c.in_ok-own_function-in-Function.ensures.resolved c.args.number, tt) in
    let made : IsMade w c.args.number first (Function c.in-Function.tree) loops c.args.friends.now c.args.friends.now (Some d) = record {
      known = c.in_ok-own_function-in-Function.ensures.known;
      part_is = part;
      friends = sym (append-nil c.args.friends.now);
    } in
    subst (λ form. IsMade w c.args.number first form loops c.args.friends.now c.args.friends.now (Some d)) (sym c.in-Function.is) made

pub returns-in_ok-own_function-in-Function-clause-owners : goal.returns-in_ok-own_function-in-Function-clause-owners
returns-in_ok-own_function-in-Function-clause-owners c = λ m e.
    let w = here_of c.args.context.now in
    owners_without w (take c.args.number w.members) m c.args.owners.now.items (λ n. ap (block_of (member_numbers w.members) (length w.members) n) (e ∙ c.in-Function.is)) c.requires.owners

pub returns-in-Ok-clause-owners : goal.returns-in-Ok-clause-owners
returns-in-Ok-clause-owners c = λ m e.
    let w = here_of c.args.context.now in
    owners_with w (take c.args.number w.members) m c.in-Spec.spec c.own_spec.new.owners.items (e ∙ c.in-Spec.is) c.in-Ok.ensures.added

pub returns-in-Ok-own_simple : goal.returns-in-Ok-own_simple
returns-in-Ok-own_simple c =
    let w = here_of c.args.context.now in
    let first = take c.args.number w.members in
    let form = c.args.form.now in
    let simple = c.in-Ok-own_simple.ensures.simple in
    record {
      made = record {
        known = simple_known w first form c.args.loops.now simple (c.in-Ok-own_simple.ensures.known first);
        part_is = c.in-Ok-own_simple.ensures.part c.args.number c.args.loops.now;
        friends = c.in-Ok-own_simple.ensures.friends;
      };
      owners = λ m e. owners_without w first m c.args.owners.now.items (λ n. ap (block_of (member_numbers w.members) (length w.members) n) e ∙ simple_block form (member_numbers w.members) (length w.members) n simple) c.requires.owners;
      unknown = tt;
    }
