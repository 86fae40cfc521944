-- Typed code is not ambiguous; disjunctions of two rules.
use Rattle.std.proofs.Common.{◌≡◌, ◌⊎◌, ℕ, inl, inr, Bool, true, false, not, ◌||◌, List, refl, sym, ◌∙◌, subst}
use Rattle.std.specs.Bool.{Decides}
use Rattle.program.specs.CodeNodes.{CodeNode}
use Rattle.base.specs.TypeData.{TypeData}
use Rattle.typing_rules.specs.Answers.{System, IsAmbiguous, IsTyped}
use Rattle.typing_rules.specs.declared.type_pool.PoolType.{PoolType}
use Rattle.body_types.specs.CodeTyped.{TypingSays}
use Rattle.body_types.specs.declared.code.fitting.Judged.{Judged}
use Rattle.body_types.specs.declared.code.typing.CodeTyping.{CodeTyping}
use Rattle.body_types.specs.declared.code.typing.CodeTyping.TheVariants.{Typed}

settled : (s : System) (types : List TypeData) → IsTyped s types → IsAmbiguous s → ⊥
settled s types typed a = elim a.why [
  | inl head ↦ typed.whole head
  | inr free ↦ let has = typed.each free.0 free.1 in free.2 (λ t u of_t of_u. has.each t of_t ∙ sym (has.each u of_u))
]

pub typed_is_settled : (typing : CodeTyping) (numbers : List ℕ) (judged : Judged) → typing ≡ Typed numbers judged
    → (s : System) (nodes : List CodeNode) (pool : List PoolType) → TypingSays s nodes pool typing → Decides false (IsAmbiguous s)
typed_is_settled typing numbers judged is s nodes pool says =
    let typed = (subst (λ (t : CodeTyping). TypingSays s nodes pool t) is says).0 in
    (λ t. absurd (cc), λ a. absurd (settled s _ typed a))

pub either : (a b : Bool) (P Q : Type 0) → Decides a P → Decides b Q → Decides (a || b) (P ⊎ Q)
either true b P Q d e = (λ t. inl (d.0 refl), λ h. refl)
either false b P Q d e = (
  λ t. inr (e.0 t),
  λ h. elim h [
    | inl p ↦ absurd (let x = d.1 p in (cc))
    | inr q ↦ e.1 q
  ],
)

-- a decided property is not its opposite
pub not_so : (known is : Bool) → known ≡ is → Decides (not known) (is ≡ false)
not_so true is h = (λ t. absurd (cc), λ f. absurd (cc))
not_so false is h = (λ t. sym h, λ f. refl)
