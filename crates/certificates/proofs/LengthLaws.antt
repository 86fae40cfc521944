-- The encodings have the counted lengths.
use Rattle.std.proofs.Common.{◌≡◌, ℕ, zero, suc, ◌+◌, ◌*◌, ◌-◌, ◌^◌, ◌≤◌, drop, List, [], ◌∷◌, ◌++◌, length, refl, ap, ◌∙◌, arith}
use Rattle.std.specs.Prelude.{ℤ, pos, negsuc}
use Rattle.std.proofs.lemmas.List.{length-append}
use Rattle.std.proofs.Math.ListN.{drop_of_length-le}
use Rattle.base.specs.TypeData.{TypeData, TypesData, BoolType, IntType, NumType, AddressType, SignerType, VectorType, StructType, ParamType, SharedType, MutableType, TupleType, NoTypes, MoreTypes, list_of_types}
use Rattle.base.specs.declared.types.StructId.{StructId}
use Rattle.fol.specs.declared.operators.Constant.{Constant}
use Rattle.fol.specs.declared.operators.Constant.TheVariants.{Num, Max, True, False, Nothing, Blank, Empty, Wide}
use Rattle.fol.specs.declared.operators.Unary.{Unary}
use Rattle.fol.specs.declared.operators.Unary.TheVariants.{Len, Pop}
use Rattle.fol.specs.declared.operators.Binary.{Binary}
use Rattle.fol.specs.declared.operators.Binary.TheVariants.{Add, Sub, Mul, Div, Mod, And, Or, Xor, Shl, Shr, Select, At, Push}
use Rattle.fol.specs.declared.operators.Ternary.{Ternary}
use Rattle.fol.specs.declared.operators.Ternary.TheVariants.{Store, Set}
use Rattle.fol.specs.FormulaData.{TermData, VarTerm, ConstantTerm, UnaryTerm, BinaryTerm, TernaryTerm, PackTerm, FieldTerm, SetFieldTerm, IfTerm, TermsData, NoTerms, MoreTerms, TriggersData, NoTriggers, MoreTriggers, FormulaData, CompareFormula, IsFormula, HoldsFormula, NotFormula, JoinFormula, ConnectFormula, QuantifyFormula, FormulasData, NoFormulas, MoreFormulas, list_of_terms, list_of_triggers, list_of_formulas, formulas_of}
use Rattle.certificates.specs.CertData.{MoveData}
use Rattle.certificates.specs.declared.certificate.Multiple.{Multiple}
use Rattle.certificates.specs.Numbers.{number_bytes, index_bytes, wide_bytes, whole_bytes, name_bytes}
use Rattle.certificates.specs.FormulaBytes.{struct_bytes, type_bytes, types_bytes, constant_bytes, unary_bytes, binary_bytes, ternary_bytes, term_bytes, terms_bytes, triggers_bytes, formula_bytes, formulas_bytes}
use Rattle.certificates.specs.Trees.{TreeData, PartsTree, SplitTree, CutTree, NameTree, InstanceTree, RewriteTree, AxiomTree, BoundTree, LinearTree, ClashTree, FalseTree, CasesData, NoCases, MoreCases, list_of_cases, moves_of, moves_of_cases}
use Rattle.certificates.specs.CertificateBytes.{axiom_number, list_bytes, multiples_bytes, tree_bytes, cases_bytes, certificate_bytes}
use Rattle.certificates.specs.Lengths.{capped, type_length, types_length, constant_length, binary_length, term_length, terms_length, triggers_length, formula_length, formulas_length, list_length, moves_length, IsLengthOf}

-- if nothing is left, the count so far is the whole
pub counted_end : {A : Type 0} (f : List A → ℕ) → f [] ≡ 0 → (xs : List A) (i total : ℕ) → length xs ≤ i → capped (total + f (drop i xs)) ≡ capped (f xs) → total ≤ 2 ^ 64 - 1 → total ≡ capped (f xs)
counted_end f none xs i total over e small =
    let rest : f (drop i xs) ≡ 0 = ap f (drop_of_length-le xs over) ∙ none in
    omega (arith, e, rest, small)

-- the length of an encoding of two parts is the sum of theirs
two : (xs ys : List ℕ) {a b : ℕ} → length xs ≡ a → length ys ≡ b → length (xs ++ ys) ≡ a + b
two xs ys e h = length-append xs ys ∙ (λ i. e i + h i)

number_long : (k n : ℕ) → length (number_bytes k n) ≡ k
number_long zero n = refl
number_long (suc k) n = ap suc (number_long k n)

index_long : (n : ℕ) → length (index_bytes n) ≡ 4
index_long n = number_long 4 n

wide_long : (n : ℕ) → length (wide_bytes n) ≡ 16
wide_long n = number_long 16 n

whole_long : (z : ℤ) → length (whole_bytes z) ≡ 16
whole_long (pos n) = number_long 16 n
whole_long (negsuc n) = number_long 16 (2 ^ 128 - suc n)

name_long : (name : List ℕ) → length (name_bytes name) ≡ 4 + length name
name_long name = two (index_bytes (length name)) name (index_long (length name)) refl

struct_long : (s : StructId) → length (struct_bytes s) ≡ 16 + ((4 + length s.«module») + (4 + length s.name))
struct_long s =
    two (wide_bytes s.address) (name_bytes s.«module» ++ name_bytes s.name) (wide_long s.address) (two (name_bytes s.«module») (name_bytes s.name) (name_long s.«module») (name_long s.name))

mutual
  type_long : (t : TypeData) → length (type_bytes t) ≡ type_length t
  type_long BoolType = refl
  type_long (IntType w) = refl
  type_long NumType = refl
  type_long AddressType = refl
  type_long SignerType = refl
  type_long (VectorType t) = omega (arith, type_long t)
  type_long (StructType s ts) =
      omega (arith, two (struct_bytes s) (index_bytes (length (list_of_types ts)) ++ types_bytes ts) (struct_long s) (two (index_bytes (length (list_of_types ts))) (types_bytes ts) (index_long (length (list_of_types ts))) (types_long ts)))
  type_long (ParamType n) = ap suc (index_long n)
  type_long (SharedType t) = omega (arith, type_long t)
  type_long (MutableType t) = omega (arith, type_long t)
  type_long (TupleType ts) =
      omega (arith, two (index_bytes (length (list_of_types ts))) (types_bytes ts) (index_long (length (list_of_types ts))) (types_long ts))

  types_long : (ts : TypesData) → length (types_bytes ts) ≡ types_length ts
  types_long NoTypes = refl
  types_long (MoreTypes t ts) = two (type_bytes t) (types_bytes ts) (type_long t) (types_long ts)

constant_long : (c : Constant) → length (constant_bytes c) ≡ constant_length c
constant_long (Num i) = ap suc (whole_long i)
constant_long Max = refl
constant_long True = refl
constant_long False = refl
constant_long Nothing = refl
constant_long Blank = refl
constant_long Empty = refl
constant_long (Wide u) = ap suc (wide_long u)

unary_long : (o : Unary) → length (unary_bytes o) ≡ 1
unary_long Len = refl
unary_long Pop = refl

binary_long : (o : Binary) → length (binary_bytes o) ≡ binary_length o
binary_long Add = refl
binary_long Sub = refl
binary_long Mul = refl
binary_long Div = refl
binary_long Mod = refl
binary_long And = refl
binary_long Or = refl
binary_long Xor = refl
binary_long (Shl w) = refl
binary_long (Shr w) = refl
binary_long Select = refl
binary_long At = refl
binary_long Push = refl

ternary_long : (o : Ternary) → length (ternary_bytes o) ≡ 1
ternary_long Store = refl
ternary_long Set = refl

mutual
  pub term_long : (t : TermData) → length (term_bytes t) ≡ term_length t
  term_long (VarTerm n) = ap suc (index_long n)
  term_long (ConstantTerm c) = constant_long c
  term_long (UnaryTerm o t) = two (unary_bytes o) (term_bytes t) (unary_long o) (term_long t)
  term_long (BinaryTerm o t u) =
      two (binary_bytes o) (term_bytes t ++ term_bytes u) (binary_long o) (two (term_bytes t) (term_bytes u) (term_long t) (term_long u))
  term_long (TernaryTerm o t u v) =
      two (ternary_bytes o) (term_bytes t ++ (term_bytes u ++ term_bytes v)) (ternary_long o) (two (term_bytes t) (term_bytes u ++ term_bytes v) (term_long t) (two (term_bytes u) (term_bytes v) (term_long u) (term_long v)))
  term_long (PackTerm a ts) =
      omega (arith, two (type_bytes a) (index_bytes (length (list_of_terms ts)) ++ terms_bytes ts) (type_long a) (two (index_bytes (length (list_of_terms ts))) (terms_bytes ts) (index_long (length (list_of_terms ts))) (terms_long ts)))
  term_long (FieldTerm a k t) =
      omega (arith, two (type_bytes a) (index_bytes k ++ term_bytes t) (type_long a) (two (index_bytes k) (term_bytes t) (index_long k) (term_long t)))
  term_long (SetFieldTerm a k t u) =
      omega (arith, two (type_bytes a) (index_bytes k ++ (term_bytes t ++ term_bytes u)) (type_long a) (two (index_bytes k) (term_bytes t ++ term_bytes u) (index_long k) (two (term_bytes t) (term_bytes u) (term_long t) (term_long u))))
  term_long (IfTerm p t u) =
      omega (arith, two (formula_bytes p) (term_bytes t ++ term_bytes u) (formula_long p) (two (term_bytes t) (term_bytes u) (term_long t) (term_long u)))

  terms_long : (ts : TermsData) → length (terms_bytes ts) ≡ terms_length ts
  terms_long NoTerms = refl
  terms_long (MoreTerms t ts) = two (term_bytes t) (terms_bytes ts) (term_long t) (terms_long ts)

  triggers_long : (ts : TriggersData) → length (triggers_bytes ts) ≡ triggers_length ts
  triggers_long NoTriggers = refl
  triggers_long (MoreTriggers t ts) =
      omega (arith, two (index_bytes (length (list_of_terms t))) (terms_bytes t ++ triggers_bytes ts) (index_long (length (list_of_terms t))) (two (terms_bytes t) (triggers_bytes ts) (terms_long t) (triggers_long ts)))

  pub formula_long : (p : FormulaData) → length (formula_bytes p) ≡ formula_length p
  formula_long (CompareFormula o t u) = omega (arith, two (term_bytes t) (term_bytes u) (term_long t) (term_long u))
  formula_long (IsFormula a t) = omega (arith, two (type_bytes a) (term_bytes t) (type_long a) (term_long t))
  formula_long (HoldsFormula t) = omega (arith, term_long t)
  formula_long (NotFormula p) = omega (arith, formula_long p)
  formula_long (JoinFormula o ps) =
      omega (arith, two (index_bytes (length (list_of_formulas ps))) (formulas_bytes ps) (index_long (length (list_of_formulas ps))) (formulas_long ps))
  formula_long (ConnectFormula o p q) = omega (arith, two (formula_bytes p) (formula_bytes q) (formula_long p) (formula_long q))
  formula_long (QuantifyFormula o n ts p) =
      omega (arith, two (index_bytes n) ((index_bytes (length (list_of_triggers ts)) ++ triggers_bytes ts) ++ formula_bytes p) (index_long n) (two (index_bytes (length (list_of_triggers ts)) ++ triggers_bytes ts) (formula_bytes p) (two (index_bytes (length (list_of_triggers ts))) (triggers_bytes ts) (index_long (length (list_of_triggers ts))) (triggers_long ts)) (formula_long p)))

  formulas_long : (ps : FormulasData) → length (formulas_bytes ps) ≡ formulas_length ps
  formulas_long NoFormulas = refl
  formulas_long (MoreFormulas p ps) = two (formula_bytes p) (formulas_bytes ps) (formula_long p) (formulas_long ps)

-- ---- trees

multiples_long : (ms : List Multiple) → length (multiples_bytes ms) ≡ 20 * length ms
multiples_long [] = refl
multiples_long (m ∷ ms) =
    omega (arith, two (index_bytes m.entry) (whole_bytes m.multiplier ++ multiples_bytes ms) (index_long m.entry) (two (whole_bytes m.multiplier) (multiples_bytes ms) (whole_long m.multiplier) (multiples_long ms)))

moves_append : (ms ns : List MoveData) → moves_length (ms ++ ns) ≡ moves_length ms + moves_length ns
moves_append [] ns = omega arith
moves_append (m ∷ ms) ns = omega (arith, moves_append ms ns)

mutual
  tree_long : (tree : TreeData) → length (tree_bytes tree) ≡ moves_length (moves_of tree)
  tree_long (PartsTree i ps next) =
      omega (arith, two (index_bytes i) (index_bytes (length ps) ++ (list_bytes ps ++ tree_bytes next)) (index_long i) (two (index_bytes (length ps)) (list_bytes ps ++ tree_bytes next) (index_long (length ps)) (two (list_bytes ps) (tree_bytes next) (formulas_long (formulas_of ps)) (tree_long next))))
  tree_long (SplitTree i cs) =
      omega (arith, cases_long cs, two (index_bytes i) (index_bytes (length (list_of_cases cs)) ++ cases_bytes cs) (index_long i) (two (index_bytes (length (list_of_cases cs))) (cases_bytes cs) (index_long (length (list_of_cases cs))) refl))
  tree_long (CutTree p next other) =
      omega (arith, moves_append (moves_of next) (moves_of other), two (formula_bytes p) (tree_bytes next ++ tree_bytes other) (formula_long p) (two (tree_bytes next) (tree_bytes other) (tree_long next) (tree_long other)))
  tree_long (NameTree i v p next) =
      omega (arith, two (index_bytes i) (index_bytes v ++ (formula_bytes p ++ tree_bytes next)) (index_long i) (two (index_bytes v) (formula_bytes p ++ tree_bytes next) (index_long v) (two (formula_bytes p) (tree_bytes next) (formula_long p) (tree_long next))))
  tree_long (InstanceTree i t p next) =
      omega (arith, two (index_bytes i) (term_bytes t ++ (formula_bytes p ++ tree_bytes next)) (index_long i) (two (term_bytes t) (formula_bytes p ++ tree_bytes next) (term_long t) (two (formula_bytes p) (tree_bytes next) (formula_long p) (tree_long next))))
  tree_long (RewriteTree i j x c p next) =
      omega (arith, two (index_bytes i) (index_bytes j ++ (formula_bytes p ++ tree_bytes next)) (index_long i) (two (index_bytes j) (formula_bytes p ++ tree_bytes next) (index_long j) (two (formula_bytes p) (tree_bytes next) (formula_long p) (tree_long next))))
  tree_long (AxiomTree name p next) =
      omega (arith, two (index_bytes (axiom_number name)) (formula_bytes p ++ tree_bytes next) (index_long (axiom_number name)) (two (formula_bytes p) (tree_bytes next) (formula_long p) (tree_long next)))
  tree_long (BoundTree i t k next other) =
      omega (arith, moves_append (moves_of next) (moves_of other), two (term_bytes t) (whole_bytes k ++ (tree_bytes next ++ tree_bytes other)) (term_long t) (two (whole_bytes k) (tree_bytes next ++ tree_bytes other) (whole_long k) (two (tree_bytes next) (tree_bytes other) (tree_long next) (tree_long other))))
  tree_long (LinearTree ms) =
      omega (arith, two (index_bytes (length ms)) (multiples_bytes ms) (index_long (length ms)) (multiples_long ms))
  tree_long (ClashTree i j) = omega (arith, two (index_bytes i) (index_bytes j) (index_long i) (index_long j))
  tree_long (FalseTree i) = omega (arith, index_long i)

  -- the formulas of the cases, and their trees
  cases_long : (cs : CasesData) → length (cases_bytes cs) ≡ list_length (list_of_cases cs) + moves_length (moves_of_cases cs)
  cases_long NoCases = refl
  cases_long (MoreCases p next cs) =
      omega (arith, moves_append (moves_of next) (moves_of_cases cs), two (formula_bytes p) (tree_bytes next ++ cases_bytes cs) (formula_long p) (two (tree_bytes next) (cases_bytes cs) (tree_long next) (cases_long cs)))

whole_length : (moves : List MoveData) (tree : TreeData) → moves_of tree ≡ moves → 1 + moves_length moves ≡ length (certificate_bytes tree)
whole_length moves tree h = omega (arith, tree_long tree, ap moves_length h)

pub is_length : (moves : List MoveData) (n : ℕ) → n ≡ capped (1 + moves_length moves) → IsLengthOf moves n
is_length moves n e = record { of_tree = λ tree h. e ∙ ap capped (whole_length moves tree h) }
