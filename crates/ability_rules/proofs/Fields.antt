-- A struct lacks an ability if and only if a field is not able.
use Rattle.std.proofs.Common.{◌≡◌, ◌↔◌, ℕ, ◌+◌, ◌<◌, ◌≤◌, Bool, true, false, List, [], ◌∷◌, ◌++◌, length, get_or, take, add-one, All, refl, sym, ◌∙◌, ap, subst}
use Rattle.std.proofs.Math.Seq.{take-suc}
use Rattle.std.proofs.lemmas.List.{take_all}
use Rattle.std.proofs.lemmas.List.Elements.{All-push}
use Rattle.std.specs.Bool.{IsTrue}
use Rattle.program.specs.declared.declaration.Struct.{Struct}
use Rattle.program.specs.declared.declaration.TypedName.{TypedName}
use Rattle.program.specs.declared.program.Program.{Program}
use Rattle.typing_rules.specs.Required.{StructLacksAbility, field_is_able}

pub found_lacking : (program : Program) (s : Struct) (k : ℕ) (field : TypedName) → k < length s.fields → get_or s.fields k field ≡ field → field_is_able program.structs s field ≡ false → IsTrue true ↔ StructLacksAbility program s
found_lacking program s k field b e lacks = (λ t. record { field = field; declared = (k, b, e); lacks = lacks }, λ h. refl)

not_both : (b : Bool) → b ≡ true → b ≡ false → ⊥
not_both b t f = cc

pub none_lacking : (program : Program) (s : Struct) → All (λ (f : TypedName). field_is_able program.structs s f ≡ true) s.fields → IsTrue false ↔ StructLacksAbility program s
none_lacking program s all = (
  λ t. absurd (cc),
  λ h.
      let d = h.declared in
      absurd (not_both _ (ap (λ (f : TypedName). field_is_able program.structs s f) (sym d.2) ∙ all d.0 h.field d.1) h.lacks),
)

pub more_able : (program : Program) (s : Struct) (k : ℕ) (field : TypedName) → k < length s.fields → get_or s.fields k field ≡ field → field_is_able program.structs s field ≡ true
    → All (λ (f : TypedName). field_is_able program.structs s f ≡ true) (take k s.fields) → All (λ (f : TypedName). field_is_able program.structs s f ≡ true) (take (k + 1) s.fields)
more_able program s k field b e able all =
    let taken : take (k + 1) s.fields ≡ take k s.fields ++ field ∷ [] =
    ap (λ (m : ℕ). take m s.fields) (add-one k) ∙ take-suc s.fields k field b ∙ ap (λ (f : TypedName). take k s.fields ++ f ∷ []) e in
    subst (λ (xs : List TypedName). All (λ (f : TypedName). field_is_able program.structs s f ≡ true) xs) (sym taken)
    (All-push (λ (f : TypedName). field_is_able program.structs s f ≡ true) (take k s.fields) field all able)

pub all_able : (program : Program) (s : Struct) (k : ℕ) → length s.fields ≤ k → All (λ (f : TypedName). field_is_able program.structs s f ≡ true) (take k s.fields) → IsTrue false ↔ StructLacksAbility program s
all_able program s k h all =
    none_lacking program s (subst (λ (xs : List TypedName). All (λ (f : TypedName). field_is_able program.structs s f ≡ true) xs) (take_all k s.fields h) all)
