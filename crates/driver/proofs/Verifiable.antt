-- Each function of a program that was read may be verified, and each module is in one of the files.
use Rattle.std.proofs.Common.{◌≡◌, ℕ, zero, suc, ◌+◌, ◌<◌, ◌≤◌, ◌^◌, Bool, true, false, cond, ◌&&◌, List, [], ◌∷◌, ◌++◌, length, map, get_or, Option, Some, None, refl, sym, ap, subst, arith}
use Rattle.std.specs.Prelude.{option_and_then, nat_lt}
use Rattle.std.specs.Option.{option_map}
use Rattle.std.specs.List.{AllByRecursion}
use Rattle.std.proofs.lemmas.Bool.{and_parts, leb-true, ltb-true}
use Rattle.syntax_tree.specs.declared.lexeme.Numeral.{Numeral}
use Rattle.syntax_tree.specs.declared.literal.Literal.{Literal}
use Rattle.syntax_tree.specs.declared.literal.Literal.TheVariants.{Number, Truth, Address}
use Rattle.syntax_tree.specs.declared.path.Path.{Path}
use Rattle.syntax_tree.specs.declared.path.Path.TheVariants.{Name as name_path, Member as member_path, Full as full_path}
use Rattle.syntax_tree.specs.ExpressionData.{ExpressionData, BinaryExpression, AssignExpression, IfExpression, WhileExpression, LoopExpression, ReturnExpression, AbortExpression, BreakExpression, ContinueExpression, UnaryExpression, UseExpression, FieldExpression, LiteralExpression, PathExpression, CallExpression, PackExpression, VectorExpression, AssertExpression, TupleExpression, CastExpression, BlockExpression, ExpressionsData, NoExpressions, MoreExpressions, BlockData, BlockOf, NoItems, MoreItems, NoExpression, SomeExpression}
use Rattle.syntax_tree.specs.declared.member.Function.{Function as FunctionTree}
use Rattle.syntax_tree.specs.declared.source.SourceForm.{SourceForm}
use Rattle.syntax_tree.specs.declared.source.SourceForm.TheVariants.{Use, Friend, Struct, Constant, Function, Spec}
use Rattle.syntax_tree.specs.SourceData.{SourceMemberData}
use Rattle.syntax_tree.specs.SourceModuleData.{SourceModuleData}
use Rattle.sum_tree.specs.declared.sum.Operator.{Operator}
use Rattle.sum_tree.specs.SumData.{SumData, NumberSum, WordSum, JoinedSum}
use Rattle.sum_tree.specs.SumFunctionData.{SumFunctionData}
use Rattle.sum_tree.specs.SpecifiedData.{SpecifiedFunctionData}
use Rattle.sum_tree.specs.SumModuleData.{SumModuleData}
use Rattle.sum_read.specs.Sums.{is_absent, joined, literal_sum, number_sum, only_sum, operator_of, sum_of, word_sum}
use Rattle.sum_read.specs.Functions.{function_of, inputs_of, is_plain, value_of}
use Rattle.sum_module.specs.declared.member.SumMember.{SumMember}
use Rattle.sum_module.specs.declared.scope.Context.TheVariants.{Body}
use Rattle.sum_module.specs.Scope.{all_differ, are_parameters, is_closed, knows_sum}
use Rattle.sum_module.specs.Members.{AreMembers, IsMember}
use Rattle.sum_module.specs.Joined.{functions_in, functions_of_member, specified}
use Rattle.sum_module.specs.Program.{IsSumModule}
use Rattle.front_end.specs.Modules.{AreModules, numbered}
use Rattle.ref_sem.specs.Bodies.{IsU64Sum}
use Rattle.driver.specs.Verified.{AreVerifiable, IsVerifiable}

-- ---- the numbers of a sum that was read

abbrev Fits : SumData → Type 0
Fits (NumberSum n) = n < 2 ^ 64
Fits (WordSum word) = Unit {0}
Fits (JoinedSum left operator right) = Fits left × Fits right

some_is : {A : Type 0} {x y : A} → Some x ≡ Some y → x ≡ y
some_is e = cc

none_is_some : {A : Type 0} {x : A} → None ≡ Some x → ⊥
none_is_some e = cc

number_fits : (n : Numeral) (s : SumData) → number_sum n ≡ Some s → Fits s
number_fits n s e = go (is_absent n.literal.suffix) (nat_lt n.literal.value (2 ^ 64)) refl e
  where
    go : (a b : Bool) → nat_lt n.literal.value (2 ^ 64) ≡ b → cond (a && b) (Some (NumberSum n.literal.value)) None ≡ Some s → Fits s
    go true true l e = subst Fits (some_is e) (ltb-true n.literal.value (2 ^ 64) l)
    go true false l e = absurd (none_is_some e)
    go false b l e = absurd (none_is_some e)

literal_fits : (l : Literal) (s : SumData) → literal_sum l ≡ Some s → Fits s
literal_fits (Number n) s e = number_fits n s e
literal_fits (Truth offset value) s e = absurd (none_is_some e)
literal_fits (Address offset address) s e = absurd (none_is_some e)

word_fits : (p : Path) (s : SumData) → word_sum p ≡ Some s → Fits s
word_fits (name_path i) s e = subst Fits (some_is e) tt
word_fits (member_path owner name) s e = absurd (none_is_some e)
word_fits (full_path owner name) s e = absurd (none_is_some e)

joined_fits : (o : Option Operator) (l r : Option SumData) (s : SumData) → ((a : SumData) → l ≡ Some a → Fits a) → ((b : SumData) → r ≡ Some b → Fits b) → joined o l r ≡ Some s → Fits s
joined_fits None l r s f g e = absurd (none_is_some e)
joined_fits (Some o) None r s f g e = absurd (none_is_some e)
joined_fits (Some o) (Some a) None s f g e = absurd (none_is_some e)
joined_fits (Some o) (Some a) (Some b) s f g e = subst Fits (some_is e) (f a refl, g b refl)

mutual
  sum_fits : (x : ExpressionData) (s : SumData) → sum_of x ≡ Some s → Fits s
  sum_fits (LiteralExpression literal) s e = literal_fits literal s e
  sum_fits (PathExpression path) s e = word_fits path s e
  sum_fits (BinaryExpression left operator offset right) s e = joined_fits (operator_of operator) (sum_of left) (sum_of right) s (λ a. sum_fits left a) (λ b. sum_fits right b) e
  sum_fits (TupleExpression offset items true) s e = absurd (none_is_some e)
  sum_fits (TupleExpression offset items false) s e = only_fits items s e
  sum_fits (AssignExpression target offset value) s e = absurd (none_is_some e)
  sum_fits (IfExpression offset condition then_branch else_branch) s e = absurd (none_is_some e)
  sum_fits (WhileExpression offset condition body) s e = absurd (none_is_some e)
  sum_fits (LoopExpression offset body) s e = absurd (none_is_some e)
  sum_fits (ReturnExpression offset value) s e = absurd (none_is_some e)
  sum_fits (AbortExpression offset code) s e = absurd (none_is_some e)
  sum_fits (BreakExpression offset) s e = absurd (none_is_some e)
  sum_fits (ContinueExpression offset) s e = absurd (none_is_some e)
  sum_fits (UnaryExpression operator offset operand) s e = absurd (none_is_some e)
  sum_fits (UseExpression kind offset local) s e = absurd (none_is_some e)
  sum_fits (FieldExpression base field) s e = absurd (none_is_some e)
  sum_fits (CallExpression function types values last) s e = absurd (none_is_some e)
  sum_fits (PackExpression path types fields last) s e = absurd (none_is_some e)
  sum_fits (VectorExpression offset types items last) s e = absurd (none_is_some e)
  sum_fits (AssertExpression offset condition code) s e = absurd (none_is_some e)
  sum_fits (CastExpression offset value target) s e = absurd (none_is_some e)
  sum_fits (BlockExpression block) s e = absurd (none_is_some e)

  only_fits : (xs : ExpressionsData) (s : SumData) → only_sum xs ≡ Some s → Fits s
  only_fits NoExpressions s e = absurd (none_is_some e)
  only_fits (MoreExpressions one NoExpressions) s e = sum_fits one s e
  only_fits (MoreExpressions one (MoreExpressions two more)) s e = absurd (none_is_some e)

body_fits : (b : BlockData) (s : SumData) → value_of b ≡ Some s → Fits s
body_fits (BlockOf offset None NoItems (SomeExpression x)) s e = sum_fits x s e
body_fits (BlockOf offset None NoItems NoExpression) s e = absurd (none_is_some e)
body_fits (BlockOf offset None (MoreItems one more) value) s e = absurd (none_is_some e)
body_fits (BlockOf offset (Some spec) items value) s e = absurd (none_is_some e)

function_fits : (f : FunctionTree) (g : SumFunctionData) → function_of f ≡ Some g → Fits g.body
function_fits f g e = go (is_plain f) (inputs_of f.inputs) (value_of f.body) refl e
  where
    go : (b : Bool) (i : Option (List (List ℕ))) (v : Option SumData) → value_of f.body ≡ v
        → cond b (option_and_then (λ parameters. option_map (λ body. record { name = f.name.text; parameters = parameters; body = body; start = f.span.start }) v) i) None ≡ Some g → Fits g.body
    go false i v is e = absurd (none_is_some e)
    go true None v is e = absurd (none_is_some e)
    go true (Some ps) None is e = absurd (none_is_some e)
    go true (Some ps) (Some s) is e = subst Fits (ap (λ (h : SumFunctionData). h.body) (some_is e)) (body_fits f.body s is)

-- ---- functions that may be verified

closed_sum : (parameters : List (List ℕ)) (s : SumData) → knows_sum parameters Body s ≡ true → Fits s → IsU64Sum parameters s
closed_sum parameters (NumberSum n) known fits = fits
closed_sum parameters (WordSum word) known fits = known
closed_sum parameters (JoinedSum left operator right) known fits =
    let k = and_parts (knows_sum parameters Body left) (knows_sum parameters Body right) known in
    (closed_sum parameters left k.0 fits.0, closed_sum parameters right k.1 fits.1)

verifiable : (f : FunctionTree) (g : SumFunctionData) → function_of f ≡ Some g → is_closed g ≡ true → IsVerifiable g
verifiable f g e closed =
    let c = and_parts (are_parameters g.parameters) (knows_sum g.parameters Body g.body) closed in
    let p = and_parts _ (all_differ g.parameters) c.0 in
    record { few = leb-true (length g.parameters) 8 p.0; body = closed_sum g.parameters g.body c.1 (function_fits f g e) }

member_verifiable : (members before : List SourceMemberData) (form : SourceForm) (x : SumMember) → IsMember members before form x → AllByRecursion IsVerifiable (functions_of_member x)
member_verifiable members before (Use u) x m = absurd m
member_verifiable members before (Friend f) x m = absurd m
member_verifiable members before (Struct s) x m = absurd m
member_verifiable members before (Constant c) x m = absurd m
member_verifiable members before (Function f) x m = subst (λ y. AllByRecursion IsVerifiable (functions_of_member y)) (sym m.found_is) (verifiable f m.function m.read m.closed, tt)
member_verifiable members before (Spec s) x m = subst (λ y. AllByRecursion IsVerifiable (functions_of_member y)) (sym m.found_is) tt

all_append : (xs ys : List SumFunctionData) → AllByRecursion IsVerifiable xs → AllByRecursion IsVerifiable ys → AllByRecursion IsVerifiable (xs ++ ys)
all_append [] ys a b = b
all_append (x ∷ xs) ys a b = (a.0, all_append xs ys a.1 b)

members_verifiable : (members before ms : List SourceMemberData) (xs : List SumMember) → AreMembers members before ms xs → AllByRecursion IsVerifiable (functions_in xs)
members_verifiable members before [] [] a = tt
members_verifiable members before [] (x ∷ xs) a = absurd a
members_verifiable members before (m ∷ ms) [] a = absurd a
members_verifiable members before (m ∷ ms) (x ∷ xs) a =
    all_append (functions_of_member x) (functions_in xs) (member_verifiable members before m.form x a.0) (members_verifiable members (before ++ m ∷ []) ms xs a.1)

each_specified : (members : List SumMember) (fs : List SumFunctionData) → AllByRecursion IsVerifiable fs → (k : ℕ) (d : SpecifiedFunctionData) → k < length (map (specified members) fs) → IsVerifiable (get_or (map (specified members) fs) k d).function
each_specified members [] h k d l = absurd (omega arith)
each_specified members (f ∷ fs) h zero d l = h.0
each_specified members (f ∷ fs) h (suc k) d l = each_specified members fs h.1 k d (omega arith)

module_verifiable : (file : ℕ) (m : SourceModuleData) (found : SumModuleData) → IsSumModule file m found → (k : ℕ) (d : SpecifiedFunctionData) → k < length found.functions → IsVerifiable (get_or found.functions k d).function
module_verifiable file m found s =
    subst (λ (f : SumModuleData). (k : ℕ) (d : SpecifiedFunctionData) → k < length f.functions → IsVerifiable (get_or f.functions k d).function) (sym s.found_is)
    (each_specified s.built.members (functions_in s.built.members) (members_verifiable m.members [] m.members s.built.members s.is_built.members))

pub program_verifiable : (before : List SumModuleData) (modules : List (ℕ × SourceModuleData)) (program : List SumModuleData) → AreModules before modules program → AreVerifiable program
program_verifiable before [] [] a k d l = absurd (omega (arith, l))
program_verifiable before [] (f ∷ found) a k d l = absurd a
program_verifiable before (m ∷ modules) [] a k d l = absurd a
program_verifiable before (m ∷ modules) (f ∷ found) a zero d l = module_verifiable m.0 m.1 f a.0
program_verifiable before (m ∷ modules) (f ∷ found) a (suc k) d l = program_verifiable (before ++ f ∷ []) modules found a.2 k d (omega (arith, l))

-- ---- files of modules

file_of_built : (file : ℕ) (m : SourceModuleData) (found : SumModuleData) → IsSumModule file m found → found.file ≡ file
file_of_built file m found s = ap (λ (f : SumModuleData). f.file) s.found_is

placed_in : (n : ℕ) (source : List SourceModuleData) (rest : List (ℕ × SourceModuleData)) (limit : ℕ) → n < limit → AllByRecursion (λ m. m.0 < limit) rest → AllByRecursion (λ m. m.0 < limit) (map (λ m. (n, m)) source ++ rest)
placed_in n [] rest limit h a = a
placed_in n (m ∷ source) rest limit h a = (h, placed_in n source rest limit h a)

pub all_placed : (n : ℕ) (sources : List (List SourceModuleData)) (limit : ℕ) → n + length sources ≤ limit → AllByRecursion (λ m. m.0 < limit) (numbered n sources)
all_placed n [] limit h = tt
all_placed n (source ∷ sources) limit h = placed_in n source (numbered (1 + n) sources) limit (omega (arith, h)) (all_placed (1 + n) sources limit (omega (arith, h)))

program_placed : (limit : ℕ) (before : List SumModuleData) (modules : List (ℕ × SourceModuleData)) (program : List SumModuleData) → AllByRecursion (λ m. m.0 < limit) modules → AreModules before modules program
    → (k : ℕ) (d : SumModuleData) → k < length program → (get_or program k d).file < limit
program_placed limit before [] [] h a k d l = absurd (omega (arith, l))
program_placed limit before [] (f ∷ found) h a k d l = absurd a
program_placed limit before (m ∷ modules) [] h a k d l = absurd a
program_placed limit before (m ∷ modules) (f ∷ found) h a zero d l = subst (λ k. k < limit) (sym (file_of_built m.0 m.1 f a.0)) h.0
program_placed limit before (m ∷ modules) (f ∷ found) h a (suc k) d l = program_placed limit (before ++ f ∷ []) modules found h.1 a.2 k d (omega (arith, l))

pub modules_placed : (sources : List (List SourceModuleData)) (limit : ℕ) (program : List SumModuleData) → length sources ≤ limit → AreModules [] (numbered 0 sources) program → (k : ℕ) (d : SumModuleData) → k < length program → (get_or program k d).file < limit
modules_placed sources limit program h a = program_placed limit [] (numbered 0 sources) program (all_placed 0 sources limit (omega (arith, h))) a
