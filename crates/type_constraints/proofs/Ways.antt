-- The way from a field access to its innermost owner.
use Rattle.std.proofs.Common.{◌≡◌, ℕ, ◌+◌, List, [], ◌∷◌, Option, Some, None, refl, ◌∙◌, ap, add-one}
use Rattle.std.specs.Prelude.{slice_get}
use Rattle.program.specs.declared.arena.Node.TheVariants.{Unary}
use Rattle.program.specs.declared.code.CodeUnary.TheVariants.{Field}
use Rattle.program.specs.CodeNodes.{CodeNode}
use Rattle.typing_rules.specs.Constraint.{Constraint}
use Rattle.typing_rules.specs.CodeConstraints.{base_constraint, owner_by, owner_constraints}
use Rattle.type_constraints.specs.Ways.{is_field_of}

no_field : (other : ℕ → Constraint) (inside : ℕ → List Constraint) (n : ℕ) (node : CodeNode) → is_field_of (Some node) ≡ None → owner_by other inside n (Some node) ≡ base_constraint other n (Some node) ∷ []
no_field other inside n (Unary (Field name) e) h = absurd (cc)
no_field other inside n _ h = refl

-- the way ends at a node that is no field access
pub way_ends : (other : ℕ → Constraint) (nodes : List CodeNode) (left n : ℕ) (node : CodeNode) → slice_get nodes n ≡ Some node → is_field_of (Some node) ≡ None → owner_constraints other nodes (left + 1) n ≡ base_constraint other n (Some node) ∷ []
way_ends other nodes left n node e h =
    ap (λ (k : ℕ). owner_constraints other nodes k n) (add-one left)
    ∙ ap (λ (o : Option CodeNode). owner_by other (owner_constraints other nodes left) n o) e
    ∙ no_field other (owner_constraints other nodes left) n node h
