-- If no head is open, all nodes are read: double negation elimination for agreement of typings on a head, since
-- equality of heads is decidable.
use Rattle.std.proofs.Common.{◌≡◌, ℕ, zero, suc, ◌+◌, ◌<◌, Bool, true, false, List, [], ◌∷◌, ◌++◌, length, Option, Some, None, refl, sym, ◌∙◌, ap, arith, length-append}
use Rattle.std.proofs.lemmas.Bool.{and_from, and_parts, both_ways, eq-eqb, eqb-true}
use Rattle.std.specs.Cmp.Lexicographic.{same_text}
use Rattle.base.specs.TypeData.{TypeData}
use Rattle.base.specs.declared.types.StructId.{StructId}
use Rattle.base.proofs.NameLaws.{same_name-same}
use Rattle.program.specs.declared.declaration.Function.{Function}
use Rattle.program.specs.declared.program.Program.{Program}
use Rattle.program.specs.Same.{same_struct}
use Rattle.program.specs.CodeNodes.{CodeNode}
use Rattle.typing_rules.specs.declared.sort.Reference.{Reference}
use Rattle.typing_rules.specs.declared.sort.Reference.TheVariants.{Shared, Mutable}
use Rattle.typing_rules.specs.Answers.{IsTyped, NodeIsRead}
use Rattle.typing_rules.specs.CodeConstraints.{constraints_from}
use Rattle.typing_rules.specs.CodeSystems.{function_setting, function_system, last_by, signature_constraints}
use Rattle.typing_rules.specs.Constraint.{Typing, Constraint, Same, Has, MadeOf, TupleOf, IsOf, Alike, Takes, Returns, FieldOf, TargetOf, Through, Behind, Barred, Written}
use Rattle.typing_rules.specs.Rules.{Agree, AnyTyping, EachSettled, IsReadFrom, IsSettled, StopsFrom, TypeReading, With}
use Rattle.typing_rules.specs.Settings.{CodeSetting}
use Rattle.typing_rules.specs.Sorts.{Head, head, kind}

-- ---- names of structs

pub struct_equal : (s t : StructId) → same_struct s t ≡ true → s ≡ t
struct_equal s t h =
    let p = and_parts _ _ h in
    let q = and_parts _ _ p.1 in
    λ i. record { address = eqb-true s.address t.address p.0 i; «module» = same_text s.«module» t.«module» (sym q.0) i; name = same_text s.name t.name (sym q.1) i }

pub struct_itself : (s : StructId) → same_struct s s ≡ true
struct_itself s = and_from _ _ (eq-eqb s.address s.address refl) (and_from _ _ (same_name-same s.«module») (same_name-same s.name))

-- ---- equality that is stable under double negation

struct_stable : (s t : StructId) → ((s ≡ t → ⊥) → ⊥) → s ≡ t
struct_stable s t h = go (same_struct s t) refl
  where
    go : (b : Bool) → same_struct s t ≡ b → s ≡ t
    go true e = struct_equal s t e
    go false e = absurd (h (λ same. both_ways (same_struct s t) e (ap (same_struct s) (sym same) ∙ struct_itself s)))

of_stable : (a b : Option StructId) → ((a ≡ b → ⊥) → ⊥) → a ≡ b
of_stable None None h = refl
of_stable None (Some t) h = absurd (h (λ e. cc))
of_stable (Some s) None h = absurd (h (λ e. cc))
of_stable (Some s) (Some t) h = ap (λ (x : StructId). Some x) (struct_stable s t (λ no. h (λ e. no (cc))))

kind_stable : (a b : Option Reference) → ((a ≡ b → ⊥) → ⊥) → a ≡ b
kind_stable None None h = refl
kind_stable None (Some r) h = absurd (h (λ e. cc))
kind_stable (Some r) None h = absurd (h (λ e. cc))
kind_stable (Some Shared) (Some Shared) h = refl
kind_stable (Some Shared) (Some Mutable) h = absurd (h (λ e. cc))
kind_stable (Some Mutable) (Some Shared) h = absurd (h (λ e. cc))
kind_stable (Some Mutable) (Some Mutable) h = refl

head_stable : (a b : Head) → ((a ≡ b → ⊥) → ⊥) → a ≡ b
head_stable a b h = λ i. record {
  kind = kind_stable a.kind b.kind (λ no. h (λ e. no (ap (λ (x : Head). x.kind) e))) i;
  of = of_stable a.of b.of (λ no. h (λ e. no (ap (λ (x : Head). x.of) e))) i;
}

kinds_agree : (P : Typing → Type 0) (e : ℕ) → ((Agree P kind e → ⊥) → ⊥) → Agree P kind e
kinds_agree P e h = λ t u p q. kind_stable (kind (t e)) (kind (u e)) (λ no. h (λ all. no (all t u p q)))

heads_agree : (P : Typing → Type 0) (e : ℕ) → ((Agree P head e → ⊥) → ⊥) → Agree P head e
heads_agree P e h = λ t u p q. head_stable (head (t e)) (head (u e)) (λ no. h (λ all. no (all t u p q)))

settled_stable : (P : Typing → Type 0) (d : Constraint) → ((IsSettled P d → ⊥) → ⊥) → IsSettled P d
settled_stable P (Same a b) h = tt
settled_stable P (Has p form) h = tt
settled_stable P (MadeOf p wrap e) h = tt
settled_stable P (TupleOf p parts) h = tt
settled_stable P (IsOf sort p) h = tt
settled_stable P (Alike a b) h = tt
settled_stable P (Takes e form) h = tt
settled_stable P (Returns e form) h = tt
settled_stable P (FieldOf p e name) h = heads_agree P e h
settled_stable P (TargetOf p e) h = kinds_agree P e h
settled_stable P (Through e) h = kinds_agree P e h
settled_stable P (Behind e) h = kinds_agree P e h
settled_stable P Barred h = tt

each_stable : (P : Typing → Type 0) (ds : List Constraint) → ((EachSettled P ds → ⊥) → ⊥) → EachSettled P ds
each_stable P [] h = tt
each_stable P (d ∷ ds) h = (settled_stable P d (λ no. h (λ s. no s.0)), each_stable P ds (λ no. h (λ s. no s.1)))

-- ---- steps

read_of : (w : TypeReading) (P : Typing → Type 0) (steps : List (List Constraint)) → (StopsFrom w P steps → ⊥) → (m : ℕ) → m < length steps → IsReadFrom w P steps m
read_of w P [] none m lt = absurd (omega (arith, lt))
read_of w P (x ∷ xs) none zero lt = each_stable P x (λ no. none (λ s. absurd (no s)))
read_of w P (x ∷ xs) none (suc m) lt = (each_stable P x (λ no. none (λ s. absurd (no s))), read_of w (With w P x) xs (λ h. none (λ s. h)) m (omega (arith, lt)))

length-constraints : (s : CodeSetting) (n : ℕ) (nodes : List CodeNode) → length (constraints_from s n nodes) ≡ length nodes
length-constraints s n [] = refl
length-constraints s n (x ∷ xs) = ap suc (length-constraints s (n + 1) xs)

among_steps : (declared whole : List Constraint) (nodes : List (List Constraint)) (n : ℕ) → n < length nodes → suc n < length (declared ∷ (nodes ++ whole ∷ []))
among_steps declared whole nodes n lt = let e = length-append nodes (whole ∷ []) in omega (arith, e, lt)

pub typed_read : (program : Program) (f : Function) (types : List TypeData) → IsTyped (function_system program f) types → (n : ℕ) → n < length f.body.nodes → NodeIsRead (function_system program f) n
typed_read program f types h n lt =
    let s = function_setting program f in
    let long = length-constraints s 0 f.body.nodes in
    read_of (function_system program f).reading AnyTyping (function_system program f).steps h.whole (suc n)
    (among_steps (signature_constraints s f) (last_by (λ k. Returns k (Written f.result)) f.body.nodes 0 ∷ []) (constraints_from s 0 f.body.nodes) n (omega (arith, lt, long)))
