-- What is known of functions, one by one.
use Rattle.std.proofs.Common.{◌≡◌, ℕ, ◌<◌, List, [], ◌∷◌, length, get_or, Some, refl, sym, ◌∙◌, ap, subst, arith}
use Rattle.std.specs.Prelude.{slice_get}
use Rattle.std.proofs.lemmas.Option.{slice_get-get_or, slice_get_read, slice_get_within, get_or_from_slice_get, same_Some}
use Rattle.base.specs.declared.types.FunctionId.{FunctionId}
use Rattle.program.specs.declared.declaration.Function.{Function}
use Rattle.program.specs.declared.program.Program.{Program}
use Rattle.definite_assignment.specs.KnownState.{AreTypedBy, IsTypedBy}
use Rattle.definite_assignment.specs.declared.whole_program.known.FunctionTypes.{FunctionTypes}
use Rattle.ability_rules.specs.KnownTypes.{AreKnown, IsListed}
use Rattle.ability_rules.specs.declared.polymorphic_recursion.known.VariableTypes.{VariableTypes}
use Rattle.type_check.specs.Functions.{AreTypings, IsTypingOf}
use Rattle.type_check.specs.Typed.{HasUntyped, IsUntyped}
use Rattle.type_check.specs.declared.code.functions.FunctionTyping.{FunctionTyping}

-- a property of the element that was read holds of the entry of the list
pub one_known : {A : Type 0} (xs : List A) (n : ℕ) (read x : A) → n < length xs → read ≡ get_or xs n read → slice_get xs n ≡ Some x → (P : A → Type 0) → P read → P x
one_known {A} xs n read x b is at P h = subst P (is ∙ get_or_from_slice_get xs n x read at) h

there : {A : Type 0} (xs : List A) (n : ℕ) → n < length xs → (x : A) × (slice_get xs n ≡ Some x)
there [] n b = absurd (omega arith)
there (x ∷ xs) n b = (get_or (x ∷ xs) n x, slice_get-get_or (x ∷ xs) n x b)

-- what each typing determines holds of each function
known_by : {T : Type 0} (Is : Program → Function → T → Type 0) (program : Program) (typings : List FunctionTyping) (known : List T) → AreTypings program typings → length known ≡ length typings
    → ((n : ℕ) (p : T) → slice_get known n ≡ Some p → (t : FunctionTyping) → slice_get typings n ≡ Some t → (program : Program) (f : Function) → IsTypingOf program f t → Is program f p)
    → (n : ℕ) (p : T) → slice_get known n ≡ Some p → (id : FunctionId) (f : Function) → slice_get program.functions n ≡ Some (id, f) → Is program f p
known_by {T} Is program typings known are long each n p at id f declared =
    let inside = slice_get_within known n p at in
    let t = there typings n (omega (arith, inside, long)) in
    each n p at t.0 t.1 program f (are.each n t.0 t.1 id f declared)

pub all_known : (program : Program) (typings : List FunctionTyping) (known : List VariableTypes) → AreTypings program typings → length known ≡ length typings
    → ((n : ℕ) (p : VariableTypes) → slice_get known n ≡ Some p → (t : FunctionTyping) → slice_get typings n ≡ Some t → (program : Program) (f : Function) → IsTypingOf program f t → IsListed program f p)
    → AreKnown program known
all_known program typings known are long each = record {
  same_length = long ∙ are.same_length;
  each = known_by (λ program f p. IsListed program f p) program typings known are long each;
}

pub all_typed : (program : Program) (typings : List FunctionTyping) (known : List FunctionTypes) → AreTypings program typings → length known ≡ length typings
    → ((n : ℕ) (p : FunctionTypes) → slice_get known n ≡ Some p → (t : FunctionTyping) → slice_get typings n ≡ Some t → (program : Program) (f : Function) → IsTypingOf program f t → IsTypedBy program f p)
    → AreTypedBy program known
all_typed program typings known are long each = record {
  same_length = long ∙ are.same_length;
  each = known_by (λ program f p. IsTypedBy program f p) program typings known are long each;
}

-- if the typing with this number is that of no typed function, the program has a function that is not typed
pub untyped_at : (program : Program) (typings : List FunctionTyping) (n : ℕ) (read : FunctionTyping) → AreTypings program typings → n < length typings → read ≡ get_or typings n read
    → ((program : Program) (f : Function) → IsTypingOf program f read → IsUntyped program f) → HasUntyped program
untyped_at program typings n read are b is untyped =
    let size = are.same_length in
    let d = there program.functions n (omega (arith, b, size)) in
    let inside : n < length program.functions = omega (arith, b, size) in
    let typing = are.each n read (slice_get_read typings (length typings) n read refl b is) d.0.0 d.0.1 d.1 in
    record {
      id = d.0.0;
      function = d.0.1;
      declared = (n, inside, get_or_from_slice_get program.functions n d.0 d.0 d.1);
      untyped = untyped program d.0.1 typing;
    }

-- each number is that of one function
pub same_function : (program : Program) (n : ℕ) (other : FunctionId) (g : Function) (id : FunctionId) (f : Function) → slice_get program.functions n ≡ Some (other, g) → slice_get program.functions n ≡ Some (id, f)
    → (P : Function → Type 0) → P g → P f
same_function program n other g id f here there P h =
    let pair : ◌≡◌ {A = FunctionId × Function} (other, g) (id, f) = same_Some _ _ (sym here ∙ there) in
    subst P (ap (λ (d : FunctionId × Function). d.1) pair) h
