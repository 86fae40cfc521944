use Rattle.std.proofs.Common.{◌∷◌, [], ◌++◌, ap, ◌∙◌, List, ℤ, replicate, pos, FitsSigned}
use Rattle.std.specs.Int.{w128}
use Rattle.linear_arith.specs.Packed.{spread}
use Rattle.linear_arith.specs.declared.packed.Entry.{Entry}
use Rattle.std.proofs.lemmas.Int.{to_z-of_z}
use Rattle.linear_arith.proofs.PackedLemmas.{spread_push}
use Rattle.linear_arith.proofs.packed.Packed.push.Goals as goal

pub returns-in_ok-push : goal.returns-in_ok-push
returns-in_ok-push c =
    let inside = c.self.inside in
    let f : FitsSigned w128 c.args.number = c.ranges.number in
    let entry : Entry = record { zeros = inside.zeros; number = c.args.number } in
    ap (λ (es : List Entry). spread es ++ replicate 0 (pos 0)) (simp to_z-of_z at c.in_ok-push.ensures.items) ∙ spread_push inside.entries.items entry ∙ ap (λ (xs : List ℤ). xs ++ c.args.number ∷ []) c.self.view_is
