-- The table of parameters grows member by member.
use Rattle.std.proofs.Common.{◌≡◌, ℕ, ◌+◌, ◌<◌, List, [], ◌∷◌, ◌++◌, Option, Some, None, Bool, true, false, cond, length, take, get_or, refl, sym, ap, ◌∙◌}
use Rattle.std.specs.Ordering.{nat_cmp, is_eq}
use Rattle.std.specs.Cmp.Lexicographic.{slice_cmp, same_text, nat_list_eq_equiv}
use Rattle.std.specs.Option.{option_or}
use Rattle.std.proofs.lemmas.List.{take_more}
use Rattle.syntax_tree.specs.declared.member.Function.{Function as FunctionTree}
use Rattle.base.specs.Names.{same_name}
use Rattle.base.proofs.NameLaws.{is_eq-same_name}
use Rattle.syntax_tree.specs.declared.source.SourceForm.{SourceForm}
use Rattle.syntax_tree.specs.declared.source.SourceForm.TheVariants.{Use, Friend, Struct, Constant, Function, Spec}
use Rattle.syntax_tree.specs.SourceData.{SourceMemberData}
use Rattle.sum_module.specs.Parameters.{Table, parameters_of, parameters_in, parameters_at, IsTableOf, IsAdded}

or_none : {A : Type 0} (x : Option A) → option_or x None ≡ x
or_none None = refl
or_none (Some a) = refl

or_assoc : {A : Type 0} (x y z : Option A) → option_or x (option_or y z) ≡ option_or (option_or x y) z
or_assoc None y z = refl
or_assoc (Some a) y z = refl

-- a name that was not in the table has its parameters now
pub is_added : (old new : Table) (key : List ℕ) (names : List (List ℕ)) → parameters_at old key ≡ None → ((q : List ℕ) → parameters_at new q ≡ cond (is_eq (slice_cmp nat_cmp key q)) (Some names) (parameters_at old q))
    → (q : List ℕ) → parameters_at new q ≡ option_or (parameters_at old q) (cond (same_name q key) (Some names) None)
is_added old new key names none more q = more q ∙ ap (λ b. cond b (Some names) (parameters_at old q)) (is_eq-same_name key q ∙ nat_list_eq_equiv.symm key q) ∙ go (same_name q key) refl
  where
    go : (b : Bool) → same_name q key ≡ b → cond b (Some names) (parameters_at old q) ≡ option_or (parameters_at old q) (cond b (Some names) None)
    go true e = ap (λ o. option_or o (Some names)) (sym none ∙ ap (parameters_at old) (sym (same_text q key (sym e))))
    go false e = sym (or_none (parameters_at old q))

-- a name that was in the table keeps its parameters
pub is_kept : (old : Table) (key : List ℕ) (had names : List (List ℕ)) → parameters_at old key ≡ Some had → (q : List ℕ) → parameters_at old q ≡ option_or (parameters_at old q) (cond (same_name q key) (Some names) None)
is_kept old key had names some q = go (same_name q key) refl
  where
    go : (b : Bool) → same_name q key ≡ b → parameters_at old q ≡ option_or (parameters_at old q) (cond b (Some names) None)
    go true e =
        let same = ap (parameters_at old) (same_text q key (sym e)) ∙ some in
        same ∙ ap (λ o. option_or o (Some names)) (sym same)
    go false e = sym (or_none (parameters_at old q))

in_append : (xs : List SourceMemberData) (x : SourceMemberData) (name : List ℕ) → parameters_in (xs ++ x ∷ []) name ≡ option_or (parameters_in xs name) (parameters_of name x.form)
in_append [] x name = or_none (parameters_of name x.form)
in_append (y ∷ ys) x name = ap (λ o. option_or (parameters_of name y.form) o) (in_append ys x name) ∙ or_assoc (parameters_of name y.form) (parameters_in ys name) (parameters_of name x.form)

in_more : (members : List SourceMemberData) (i : ℕ) (d : SourceMemberData) (name : List ℕ) → i < length members
    → parameters_in (take (i + 1) members) name ≡ option_or (parameters_in (take i members) name) (parameters_of name (get_or members i d).form)
in_more members i d name h = ap (λ ms. parameters_in ms name) (take_more members i d h) ∙ in_append (take i members) (get_or members i d) name

pub table_grows : (members : List SourceMemberData) (i : ℕ) (d : SourceMemberData) (f : FunctionTree) (old new : Table) → i < length members → IsTableOf old (take i members) → IsAdded f old new
    → (get_or members i d).form ≡ Function f → IsTableOf new (take (i + 1) members)
table_grows members i d f old new h before more e name =
    more name ∙ ap (λ o. option_or o (parameters_of name (Function f))) (before name) ∙ ap (λ form. option_or (parameters_in (take i members) name) (parameters_of name form)) (sym e) ∙ sym (in_more members i d name h)

no_parameters : (form : SourceForm) (name : List ℕ) → ((f : FunctionTree) → form ≡ Function f → ⊥) → parameters_of name form ≡ None
no_parameters (Use u) name none = refl
no_parameters (Friend f) name none = refl
no_parameters (Struct s) name none = refl
no_parameters (Constant c) name none = refl
no_parameters (Function f) name none = absurd (none f refl)
no_parameters (Spec s) name none = refl

pub table_stays : (members : List SourceMemberData) (i : ℕ) (d : SourceMemberData) (old new : Table) → i < length members → IsTableOf old (take i members) → new ≡ old
    → ((f : FunctionTree) → (get_or members i d).form ≡ Function f → ⊥) → IsTableOf new (take (i + 1) members)
table_stays members i d old new h before same none name =
    ap (λ t. parameters_at t name) same ∙ before name ∙ sym (or_none (parameters_in (take i members) name))
    ∙ ap (λ o. option_or (parameters_in (take i members) name) o) (sym (no_parameters (get_or members i d).form name none)) ∙ sym (in_more members i d name h)
