-- The functions of a built module have different names.
use Rattle.std.proofs.Common.{◌≡◌, ℕ, Bool, true, false, cond, List, [], ◌∷◌, ◌++◌, Option, Some, None, refl, sym, ap, ◌∙◌, append_assoc, append-nil}
use Rattle.std.specs.Prelude.{option_and_then}
use Rattle.std.specs.Option.{option_map}
use Rattle.std.proofs.lemmas.Grind.{flat_map-append}
use Rattle.syntax_tree.specs.declared.member.Function.{Function as FunctionTree}
use Rattle.syntax_tree.specs.declared.source.SourceForm.{SourceForm}
use Rattle.syntax_tree.specs.declared.source.SourceForm.TheVariants.{Use, Friend, Struct, Constant, Function, Spec}
use Rattle.syntax_tree.specs.SourceData.{SourceMemberData}
use Rattle.syntax_tree.specs.SourceModuleData.{SourceModuleData}
use Rattle.sum_tree.specs.SumData.{SumData}
use Rattle.sum_tree.specs.SumFunctionData.{SumFunctionData}
use Rattle.sum_read.specs.Functions.{is_plain, inputs_of, value_of, function_of}
use Rattle.sum_module.specs.declared.member.SumMember.{SumMember}
use Rattle.sum_module.specs.BuiltModuleData.{BuiltModuleData}
use Rattle.sum_module.specs.Scope.{all_differ}
use Rattle.sum_module.specs.Members.{name_of_form, name_of_member, functions_of, IsMember, AreMembers}
use Rattle.sum_module.specs.Built.{IsBuilt}
use Rattle.sum_module.specs.Joined.{functions_of_member, functions_in}
use Rattle.sum_module.specs.ClauseTable.{names_among}
use Rattle.sum_module.proofs.NameLemmas.{all_differ-push}
use Rattle.sum_module.proofs.ClauseTableLemmas.{names_append}

name_is : (f : FunctionTree) (g : SumFunctionData) → function_of f ≡ Some g → g.name ≡ f.name.text
name_is f g e = go (is_plain f) (inputs_of f.inputs) (value_of f.body) e
  where
    inside : (x y : SumFunctionData) → ◌≡◌ {A = Option SumFunctionData} (Some x) (Some y) → x ≡ y
    inside x y e = cc

    go : (b : Bool) (i : Option (List (List ℕ))) (v : Option SumData)
        → cond b (option_and_then (λ parameters. option_map (λ body. record { name = f.name.text; parameters = parameters; body = body; start = f.span.start }) v) i) None ≡ Some g → g.name ≡ f.name.text
    go false i v e = absurd (cc)
    go true None v e = absurd (cc)
    go true (Some ps) None e = absurd (cc)
    go true (Some ps) (Some s) e = ap (λ (h : SumFunctionData). h.name) (sym (inside _ g e))

-- the name of a member's function is that of its tree
names_of_one : (members before : List SourceMemberData) (form : SourceForm) (x : SumMember) → IsMember members before form x → names_among (functions_of_member x) ≡ name_of_form form
names_of_one members before (Use u) x m = absurd m
names_of_one members before (Friend f) x m = absurd m
names_of_one members before (Struct s) x m = absurd m
names_of_one members before (Constant c) x m = absurd m
names_of_one members before (Function f) x m = ap (λ y. names_among (functions_of_member y)) m.found_is ∙ ap (λ name. name ∷ []) (name_is f m.function m.read)
names_of_one members before (Spec s) x m = ap (λ y. names_among (functions_of_member y)) m.found_is

names_of_all : (members before ms : List SourceMemberData) (xs : List SumMember) → AreMembers members before ms xs → names_among (functions_in xs) ≡ functions_of ms
names_of_all members before [] [] a = refl
names_of_all members before [] (x ∷ xs) a = absurd a
names_of_all members before (m ∷ ms) [] a = absurd a
names_of_all members before (m ∷ ms) (x ∷ xs) a =
    names_append (functions_of_member x) (functions_in xs) ∙ ap (λ ns. ns ++ names_among (functions_in xs)) (names_of_one members before m.form x a.0)
    ∙ ap (λ ns. name_of_form m.form ++ ns) (names_of_all members (before ++ m ∷ []) ms xs a.1)

functions_append : (ms : List SourceMemberData) (m : SourceMemberData) → functions_of (ms ++ m ∷ []) ≡ functions_of ms ++ name_of_form m.form
functions_append ms m = flat_map-append name_of_member ms (m ∷ []) ∙ ap (λ ns. functions_of ms ++ ns) (append-nil (name_of_form m.form))

-- one more member's function has a name of its own
differ_one : (members before : List SourceMemberData) (form : SourceForm) (x : SumMember) → IsMember members before form x → all_differ (functions_of before) ≡ true → all_differ (functions_of before ++ name_of_form form) ≡ true
differ_one members before (Use u) x m d = absurd m
differ_one members before (Friend f) x m d = absurd m
differ_one members before (Struct s) x m d = absurd m
differ_one members before (Constant c) x m d = absurd m
differ_one members before (Function f) x m d = all_differ-push (functions_of before) f.name.text d m.first
differ_one members before (Spec s) x m d = ap all_differ (append-nil (functions_of before)) ∙ d

differ_all : (members before ms : List SourceMemberData) (xs : List SumMember) → AreMembers members before ms xs → all_differ (functions_of before) ≡ true → all_differ (functions_of (before ++ ms)) ≡ true
differ_all members before [] [] a d = ap (λ list. all_differ (functions_of list)) (append-nil before) ∙ d
differ_all members before [] (x ∷ xs) a d = absurd a
differ_all members before (m ∷ ms) [] a d = absurd a
differ_all members before (m ∷ ms) (x ∷ xs) a d =
    ap (λ list. all_differ (functions_of list)) (sym (append_assoc before (m ∷ []) ms))
    ∙ differ_all members (before ++ m ∷ []) ms xs a.1 (ap all_differ (functions_append before m) ∙ differ_one members before m.form x a.0 d)

pub names_differ : (m : SourceModuleData) (b : BuiltModuleData) → IsBuilt m b → all_differ (names_among (functions_in b.members)) ≡ true
names_differ m b h = ap all_differ (names_of_all m.members [] m.members b.members h.members) ∙ differ_all m.members [] m.members b.members h.members refl
