-- A module is at most one module of sums, or what is not built of it begins at one offset.
use Rattle.std.proofs.Common.{◌≡◌, ℕ, List, [], ◌∷◌, ◌++◌, Some, None, refl, sym, ap, subst, ◌∙◌, append-nil, append_assoc, inl, inr}
use Rattle.base.proofs.ListEnds.{head_is, tail_is}
use Rattle.syntax_tree.specs.declared.source.SourceForm.{SourceForm}
use Rattle.syntax_tree.specs.declared.source.SourceForm.TheVariants.{Use, Friend, Struct, Constant, Function, Spec}
use Rattle.syntax_tree.specs.SourceData.{SourceMemberData}
use Rattle.syntax_tree.specs.SourceModuleData.{SourceModuleData}
use Rattle.sum_tree.specs.SumModuleData.{SumModuleData}
use Rattle.sum_module.specs.declared.member.SumMember.{SumMember}
use Rattle.sum_module.specs.declared.member.SumMember.TheVariants.{Function as function_member, Spec as spec_member}
use Rattle.sum_module.specs.BuiltModuleData.{BuiltModuleData}
use Rattle.sum_module.specs.Built.{IsBuilt, IsFirstUnbuilt as IsFirstUnbuiltMember, IsUnbuiltAt, address_of}
use Rattle.sum_module.specs.Members.{AreMembers, IsMember, IsUnbuilt}
use Rattle.syntax_tree.specs.Spans.{form_span}
use Rattle.sum_module.specs.Joined.{module_of}
use Rattle.sum_module.specs.Program.{IsSumModule}

some_is : {A : Type 0} {x y : A} → Some x ≡ Some y → x ≡ y
some_is e = cc

-- ---- members

one_member : (members before : List SourceMemberData) (form : SourceForm) (x y : SumMember) → IsMember members before form x → IsMember members before form y → x ≡ y
one_member members before (Use u) x y p q = absurd p
one_member members before (Friend f) x y p q = absurd p
one_member members before (Struct s) x y p q = absurd p
one_member members before (Constant c) x y p q = absurd p
one_member members before (Function f) x y p q = p.found_is ∙ ap function_member (some_is (sym p.read ∙ q.read)) ∙ sym q.found_is
one_member members before (Spec tree) x y p q = p.found_is ∙ ap spec_member (some_is (sym p.read ∙ q.read)) ∙ sym q.found_is

one_members : (members before ms : List SourceMemberData) (xs ys : List SumMember) → AreMembers members before ms xs → AreMembers members before ms ys → xs ≡ ys
one_members members before [] [] [] p q = refl
one_members members before [] [] (y ∷ ys) p q = absurd q
one_members members before [] (x ∷ xs) ys p q = absurd p
one_members members before (m ∷ ms) [] ys p q = absurd p
one_members members before (m ∷ ms) (x ∷ xs) [] p q = absurd q
one_members members before (m ∷ ms) (x ∷ xs) (y ∷ ys) p q =
    ap (λ z. z ∷ xs) (one_member members before m.form x y p.0 q.0) ∙ ap (λ zs. y ∷ zs) (one_members members (before ++ m ∷ []) ms xs ys p.1 q.1)

-- the members up to one that is not built are those up to another
member_once : (members front one other : List SourceMemberData) (x y : SourceMemberData) (back behind : List SourceMemberData) (xs ys : List SumMember)
    → one ++ x ∷ back ≡ other ++ y ∷ behind → AreMembers members front one xs → AreMembers members front other ys
    → IsUnbuilt members (front ++ one) x.form → IsUnbuilt members (front ++ other) y.form → x ≡ y
member_once members front [] [] x y back behind xs ys e p q u v = head_is e
member_once members front [] (w ∷ other) x y back behind xs [] e p q u v = absurd q
member_once members front [] (w ∷ other) x y back behind xs (b ∷ ys) e p q u v =
    absurd (subst (λ before. IsUnbuilt members before x.form) (append-nil front) u b (subst (λ (m : SourceMemberData). IsMember members front m.form b) (sym (head_is e)) q.0))
member_once members front (w ∷ one) [] x y back behind [] ys e p q u v = absurd p
member_once members front (w ∷ one) [] x y back behind (a ∷ xs) ys e p q u v =
    absurd (subst (λ before. IsUnbuilt members before y.form) (append-nil front) v a (subst (λ (m : SourceMemberData). IsMember members front m.form a) (head_is e) p.0))
member_once members front (v ∷ one) (w ∷ other) x y back behind [] ys e p q f g = absurd p
member_once members front (v ∷ one) (w ∷ other) x y back behind (a ∷ xs) [] e p q f g = absurd q
member_once members front (v ∷ one) (w ∷ other) x y back behind (a ∷ xs) (b ∷ ys) e p q f g =
    member_once members (front ++ v ∷ []) one other x y back behind xs ys (tail_is e) p.1
    (subst (λ m. AreMembers members (front ++ m ∷ []) other ys) (sym (head_is e)) q.1)
    (subst (λ before. IsUnbuilt members before x.form) (sym (append_assoc front (v ∷ []) one)) f)
    (subst (λ before. IsUnbuilt members before y.form) (ap (λ m. front ++ m ∷ other) (sym (head_is e)) ∙ sym (append_assoc front (v ∷ []) other)) g)

first_once : (members : List SourceMemberData) (offset other : ℕ) → IsFirstUnbuiltMember members offset → IsFirstUnbuiltMember members other → offset ≡ other
first_once members offset other p q =
    p.offset_is ∙ ap (λ (m : SourceMemberData). (form_span m.form).start) (member_once members [] p.before q.before p.member q.member p.behind q.behind p.built q.built (sym p.parts ∙ q.parts) p.are_built q.are_built p.unbuilt q.unbuilt) ∙ sym q.offset_is

-- if all members are built, none is not
all_built : (members front before : List SourceMemberData) (m : SourceMemberData) (behind : List SourceMemberData) (xs : List SumMember) → AreMembers members front (before ++ m ∷ behind) xs → IsUnbuilt members (front ++ before) m.form → ⊥
all_built members front [] m behind [] a u = a
all_built members front [] m behind (x ∷ xs) a u = subst (λ before. IsUnbuilt members before m.form) (append-nil front) u x a.0
all_built members front (w ∷ before) m behind [] a u = a
all_built members front (w ∷ before) m behind (x ∷ xs) a u =
    all_built members (front ++ w ∷ []) before m behind xs a.1 (subst (λ before. IsUnbuilt members before m.form) (sym (append_assoc front (w ∷ []) before)) u)

-- ---- modules

same_module : (x y : BuiltModuleData) → x.address ≡ y.address → x.name ≡ y.name → x.members ≡ y.members → x ≡ y
same_module x y a n m = λ i. record { address = a i; name = n i; members = m i }

one_built : (m : SourceModuleData) (x y : BuiltModuleData) → IsBuilt m x → IsBuilt m y → x ≡ y
one_built m x y p q = same_module x y (some_is (sym p.address ∙ q.address)) (p.name ∙ sym q.name) (one_members m.members [] m.members x.members y.members p.members q.members)

pub one_module : (file : ℕ) (m : SourceModuleData) (x y : SumModuleData) → IsSumModule file m x → IsSumModule file m y → x ≡ y
one_module file m x y p q = p.found_is ∙ ap (module_of file) (one_built m p.built q.built p.is_built q.is_built) ∙ sym q.found_is

no_number : (m : SourceModuleData) (address : ℕ) → address_of m.name.address ≡ None → address_of m.name.address ≡ Some address → ⊥
no_number m address n s = apart (sym n ∙ s)
  where
    apart : {a : ℕ} → None ≡ Some a → ⊥
    apart e = absurd (cc)

pub built_or_not : (file : ℕ) (m : SourceModuleData) (found : SumModuleData) (offset : ℕ) → IsSumModule file m found → IsUnbuiltAt m offset → ⊥
built_or_not file m found offset b u =
    elim u [
      | inl n ↦ no_number m b.built.address n.address b.is_built.address
      | inr n ↦ all_built m.members [] n.first.before n.first.member n.first.behind b.built.members (subst (λ ms. AreMembers m.members [] ms b.built.members) n.first.parts b.is_built.members) n.first.unbuilt
    ]

pub one_offset : (m : SourceModuleData) (offset other : ℕ) → IsUnbuiltAt m offset → IsUnbuiltAt m other → offset ≡ other
one_offset m offset other p q =
    elim p [
      | inl a ↦ elim q [
        | inl b ↦ a.offset_is ∙ sym b.offset_is
        | inr b ↦ absurd (no_number m b.address a.address b.address_is)
      ]
      | inr a ↦ elim q [
        | inl b ↦ absurd (no_number m a.address b.address a.address_is)
        | inr b ↦ first_once m.members offset other a.first b.first
      ]
    ]
