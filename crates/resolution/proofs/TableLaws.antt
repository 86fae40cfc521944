-- Declarations added to tables.
use Rattle.std.proofs.Common.{◌≡◌, ◌↔◌, Bool, true, false, IsTrue, Option, Some, None, is_none, List, [], ◌∷◌, ◌++◌, if◌then◌else◌, refl, sym, ap, ◌∙◌}
use Rattle.std.specs.List.{filter_map}
use Rattle.std.specs.Map.{lookup}
use Rattle.std.proofs.lemmas.List.Elements.{filter_map-append}
use Rattle.std.proofs.lemmas.Grind.{fold-append}
use Rattle.base.specs.Pairs.{Paired}
use Rattle.program.specs.declared.program.Program.{Program}
use Rattle.scopes.specs.MemberNames.{first_stays, same_module}
use Rattle.scopes.specs.Brings.{firsts}
use Rattle.resolution.specs.Setting.{same_schema}
use Rattle.resolution.specs.declared.declared.Declared.{Declared}
use Rattle.resolution.specs.Parts.{Entered, EnteredOf}
use Rattle.resolution.specs.Programs.{DeclarationTree, IsDeclaredAs, constant_in, function_in, module_in, same_constant, same_function, same_struct, schema_in, spec_function_in, struct_in}

some_is_none : {A : Type 0} (x : A) → Some x ≡ None → ⊥
some_is_none x e = cc

false_is_true : IsTrue false → ⊥
false_is_true h = cc

true_is_true : IsTrue true
true_is_true = refl

stays-cases : {K V : Type 0} (es : List (K × V)) (k : K) (v : V) (b : Bool) (o : Option V) → (IsTrue b ↔ (o ≡ None)) → (if b then es ++ (k, v) ∷ [] else es) ≡ (if is_none o then es ++ (k, v) ∷ [] else es)
stays-cases es k v true None q = refl
stays-cases es k v true (Some x) q = absurd (some_is_none x (q.0 true_is_true))
stays-cases es k v false None q = absurd (false_is_true (q.1 refl))
stays-cases es k v false (Some x) q = refl

-- one more declaration in a table
pub put_stays : {K V : Type 0} (same : K → K → Bool) (es new : List (K × V)) (k : K) (v : V) (is_new : Bool) → (IsTrue is_new ↔ (lookup (same k) es ≡ None)) → new ≡ (if is_new then es ++ (k, v) ∷ [] else es) → new ≡ first_stays same es k v
put_stays same es new k v is_new h e = e ∙ stays-cases es k v is_new (lookup (same k) es) h

firsts-both : {K V : Type 0} (same : K → K → Bool) (f : Declared → Option (K × V)) (xs ys : List Declared) (a b c : List (K × V)) → b ≡ firsts same a (filter_map f xs) → c ≡ firsts same b (filter_map f ys) → c ≡ firsts same a (filter_map f (xs ++ ys))
firsts-both same f xs ys a b c e g =
    g ∙ ap (λ t. firsts same t (filter_map f ys)) e
    ∙ sym (fold-append (λ es x. first_stays same es x.0 x.1) a (filter_map f xs) (filter_map f ys))
    ∙ ap (λ es. firsts same a es) (sym (filter_map-append f xs ys))

entered_none : (p : Program) → Entered [] p p
entered_none p = record { modules = refl; structs = refl; constants = refl; functions = refl; spec_functions = refl; schemas = refl }

entered_both : (xs ys : List Declared) (a b c : Program) → Entered xs a b → Entered ys b c → Entered (xs ++ ys) a c
entered_both xs ys a b c e g = record {
  modules = firsts-both same_module (λ d. module_in d.form) xs ys a.modules b.modules c.modules e.modules g.modules;
  structs = firsts-both same_struct (λ d. struct_in d.form) xs ys a.structs b.structs c.structs e.structs g.structs;
  constants = firsts-both same_constant (λ d. constant_in d.form) xs ys a.constants b.constants c.constants e.constants g.constants;
  functions = firsts-both same_function (λ d. function_in d.form) xs ys a.functions b.functions c.functions e.functions g.functions;
  spec_functions = firsts-both same_function (λ d. spec_function_in d.form) xs ys a.spec_functions b.spec_functions c.spec_functions e.spec_functions g.spec_functions;
  schemas = firsts-both same_schema (λ d. schema_in d.form) xs ys a.schemas b.schemas c.schemas e.schemas g.schemas;
}

pub paired_append : {A B : Type 0} (R : A → B → Type 0) (xs ys : List A) (us vs : List B) → Paired R xs us → Paired R ys vs → Paired R (xs ++ ys) (us ++ vs)
paired_append R [] ys [] vs p q = q
paired_append R [] ys (u ∷ us) vs p q = absurd p
paired_append R (x ∷ xs) ys [] vs p q = absurd p
paired_append R (x ∷ xs) ys (u ∷ us) vs p q = (p.0, paired_append R xs ys us vs p.1 q)

pub nothing_entered : (p : Program) → EnteredOf [] p p
nothing_entered p = record { more = []; are = tt; entered = entered_none p }

pub both_entered : (ts us : List DeclarationTree) (a b c : Program) → EnteredOf ts a b → EnteredOf us b c → EnteredOf (ts ++ us) a c
both_entered ts us a b c e g = record {
  more = e.more ++ g.more;
  are = paired_append IsDeclaredAs ts us e.more g.more e.are g.are;
  entered = entered_both e.more g.more a b c e.entered g.entered;
}

pub one_entered : (t : DeclarationTree) (d : Declared) (a b : Program) → IsDeclaredAs t d → Entered (d ∷ []) a b → EnteredOf (t ∷ []) a b
one_entered t d a b h e = record { more = d ∷ []; are = (h, tt); entered = e }
