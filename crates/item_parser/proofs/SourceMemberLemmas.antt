-- Members and modules with the trees of their spec blocks: there is at most one result, and reading in order finds it.
use Rattle.std.proofs.Common.{◌≡◌, ℕ, List, [], ◌∷◌, refl, sym, ap, ◌∙◌}
use Rattle.syntax_tree.specs.FileData.{MemberData, ModuleData}
use Rattle.syntax_tree.specs.declared.member.MemberForm.{MemberForm}
use Rattle.syntax_tree.specs.declared.member.MemberForm.TheVariants.{Use as kept_use, Friend as kept_friend, Struct as kept_struct, Constant as kept_constant, Function as kept_function, Spec as kept_spec}
use Rattle.syntax_tree.specs.declared.spec_tokens.KeptSpec.{KeptSpec}
use Rattle.syntax_tree.specs.declared.source.SourceForm.{SourceForm}
use Rattle.syntax_tree.specs.declared.source.SourceForm.TheVariants.{Spec}
use Rattle.syntax_tree.specs.SourceData.{SourceMemberData}
use Rattle.syntax_tree.specs.SourceModuleData.{SourceModuleData}
use Rattle.syntax_tree.specs.FunctionNames.{function_names}
use Rattle.syntax_tree.specs.Members.{IsSourceForm, IsSourceMember, IsSourceModule}
use Rattle.item_parser.specs.Reading.{HasNoTree, HasNoForm}
use Rattle.base.proofs.PairLaws.{one_list}
use Rattle.syntax_tree.specs.Loops.{loop_specs, IsLoopTree}
use Rattle.item_parser.proofs.SpecLemmas.{one_tree, one_loop}

-- ---- one at most

one_form : (functions : List (List ℕ)) (form : MemberForm) (x y : SourceForm) → IsSourceForm functions form x → IsSourceForm functions form y → x ≡ y
one_form functions (kept_use u) x y p q = p ∙ sym q
one_form functions (kept_friend f) x y p q = p ∙ sym q
one_form functions (kept_struct s) x y p q = p ∙ sym q
one_form functions (kept_constant c) x y p q = p ∙ sym q
one_form functions (kept_function f) x y p q = p ∙ sym q
one_form functions (kept_spec b) x y p q = p.1 ∙ ap (λ tree. Spec tree) (one_tree functions b p.0 q.0 p.2 q.2) ∙ sym q.1

same_member : (x y : SourceMemberData) → x.attributes ≡ y.attributes → x.form ≡ y.form → x.loops ≡ y.loops → x ≡ y
same_member x y a f l =
    ap (λ list. record { attributes = list; form = x.form; loops = x.loops }) a ∙ ap (λ form. record { attributes = y.attributes; form = form; loops = x.loops }) f
    ∙ ap (λ loops. record { attributes = y.attributes; form = y.form; loops = loops }) l

pub one_member : (functions : List (List ℕ)) (m : MemberData) (x y : SourceMemberData) → IsSourceMember functions m x → IsSourceMember functions m y → x ≡ y
one_member functions m x y p q =
    same_member x y (p.attributes ∙ sym q.attributes) (one_form functions m.form x.form y.form p.form q.form) (one_list IsLoopTree (loop_specs m.form) x.loops y.loops one_loop p.loops q.loops)

same_module : (x y : SourceModuleData) → x.attributes ≡ y.attributes → x.span ≡ y.span → x.name ≡ y.name → x.members ≡ y.members → x ≡ y
same_module x y a p n m =
    ap (λ list. record { attributes = list; span = x.span; name = x.name; members = x.members }) a
    ∙ ap (λ span. record { attributes = y.attributes; span = span; name = x.name; members = x.members }) p
    ∙ ap (λ name. record { attributes = y.attributes; span = y.span; name = name; members = x.members }) n
    ∙ ap (λ ms. record { attributes = y.attributes; span = y.span; name = y.name; members = ms }) m

pub one_module : (m : ModuleData) (x y : SourceModuleData) → IsSourceModule m x → IsSourceModule m y → x ≡ y
one_module m x y p q =
    same_module x y (p.attributes ∙ sym q.attributes) (p.span ∙ sym q.span) (p.name ∙ sym q.name)
    (one_list (IsSourceMember (function_names m.members)) m.members x.members y.members (one_member (function_names m.members)) p.members q.members)

-- ---- none

pub no_form : (functions : List (List ℕ)) (block : KeptSpec) → HasNoTree functions block → HasNoForm functions (kept_spec block)
no_form functions block none found s = none s.0 s.2
