-- What a call lacks.
use Rattle.std.proofs.Common.{◌≡◌, ◌↔◌, Bool, true, false, ◌||◌, inl, inr, List, [], ◌∷◌, ◌++◌, Option, Some, None, refl, sym, ◌∙◌, subst, if◌then◌else◌}
use Rattle.std.specs.Bool.{IsTrue}
use Rattle.std.specs.Map.{lookup}
use Rattle.std.proofs.lemmas.Bool.{and_parts, eqb-true, or_cases}
use Rattle.std.specs.Cmp.Lexicographic.{same_text}
use Rattle.base.specs.declared.types.FunctionId.{FunctionId}
use Rattle.base.specs.declared.types.StructId.{StructId}
use Rattle.program.specs.declared.declaration.Function.{Function}
use Rattle.program.specs.declared.program.ModuleId.{ModuleId}
use Rattle.program.specs.declared.program.Program.{Program}
use Rattle.program.specs.Homes.{function_home}
use Rattle.program.specs.Same.{same_function}
use Rattle.ability_rules.specs.Missing.{AreLooked, CalleeLacks, DeclaredLacks, FunctionSet, HasMissing, IsSetOf, StructSet, Tells, has_function}
use Rattle.ability_rules.proofs.Sets.{put_is}

pub function_equal : (f g : FunctionId) → same_function f g ≡ true → f ≡ g
function_equal f g h =
    let p = and_parts _ _ h in
    let q = and_parts _ _ p.1 in
    λ i. record { address = eqb-true f.address g.address p.0 i; «module» = same_text f.«module» g.«module» (sym q.0) i; name = same_text f.name g.name (sym q.1) i }

pub not_declared : (listed : List StructId) (found : Option Function) → None ≡ found → IsTrue false ↔ DeclaredLacks listed found
not_declared listed None e = (λ t. absurd (cc), λ h. absurd h)
not_declared listed (Some f) e = absurd (cc)

pub declared_is : (listed structs : List StructId) (found : Option Function) (f : Function) (lacks : Bool) → Some f ≡ found → structs ≡ f.acquires → IsTrue lacks ↔ HasMissing listed structs → IsTrue lacks ↔ DeclaredLacks listed found
declared_is listed structs found f lacks e same h =
    subst (λ (o : Option Function). IsTrue lacks ↔ DeclaredLacks listed o) e (subst (λ (xs : List StructId). IsTrue lacks ↔ HasMissing listed xs) same h)

module _ (program : Program) (own : ModuleId) (set : StructSet) (old : FunctionSet) (callee : FunctionId) where
  abbrev lacking : List StructId → Type 0
  lacking listed = CalleeLacks program own listed callee

  -- a function of another module
  pub other_module : (function_home callee ≡ own → ⊥) → Tells program own set old old lacking false
  other_module other = record {
    each = λ listed is looked. record { answer = (λ t. absurd (cc), λ h. absurd (other h.0)); looked = λ e. looked };
  }

  -- a function that was examined before
  pub was_looked : has_function old callee ≡ true → Tells program own set old old lacking false
  was_looked there = record {
    each = λ listed is looked. record { answer = (λ t. absurd (cc), λ h. absurd (looked.each callee there h)); looked = λ e. looked };
  }

  pub callee_found : function_home callee ≡ own → ((listed : List StructId) → IsSetOf set listed → IsTrue true ↔ DeclaredLacks listed (lookup (same_function callee) program.functions)) → Tells program own set old old lacking true
  callee_found home h = record {
    each = λ listed is looked. record { answer = (λ t. (home, (h listed is).0 refl), λ l. refl); looked = λ e. absurd (cc) };
  }

  looked_more : (new : FunctionSet) (listed : List StructId) → (DeclaredLacks listed (lookup (same_function callee) program.functions) → ⊥) → ((q : FunctionId) → has_function new q ≡ (has_function old q || same_function q callee)) → AreLooked program own listed old → AreLooked program own listed new
  looked_more new listed none put looked = record {
    each = λ f there lacks. elim (or_cases _ _ (sym (put f) ∙ there)) [
      | inl before ↦ looked.each f before lacks
      | inr one ↦ none (subst (λ (g : FunctionId). DeclaredLacks listed (lookup (same_function g) program.functions)) (function_equal f callee one) lacks.1)
    ];
  }

  -- a function that is examined now, and lists nothing that is missing
  pub callee_clear : (new : FunctionSet) (copy : FunctionId) (is_new : Bool) → ((listed : List StructId) → IsSetOf set listed → IsTrue false ↔ DeclaredLacks listed (lookup (same_function callee) program.functions))
      → copy ≡ callee → (IsTrue is_new ↔ (lookup (same_function copy) old ≡ None)) → new ≡ (if is_new then old ++ (copy, tt) ∷ [] else old) → Tells program own set old new lacking false
  callee_clear new copy is_new h same n e = record {
    each = λ listed is looked.
        (let none : DeclaredLacks listed (lookup (same_function callee) program.functions) → ⊥ = λ d. no_truth ((h listed is).1 d) in
        let put : (q : FunctionId) → has_function new q ≡ (has_function old q || same_function q callee) =
        subst (λ (g : FunctionId). (q : FunctionId) → has_function new q ≡ (has_function old q || same_function q g)) same (put_is same_function function_equal old new copy is_new n e) in
        record { answer = (λ t. absurd (cc), λ l. absurd (none l.1)); looked = λ t. looked_more new listed none put looked });
  }
    where
      no_truth : false ≡ true → ⊥
      no_truth t = cc
