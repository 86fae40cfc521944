-- The table of clauses: how it grows by spec blocks, and how functions take their clauses from it.
use Rattle.std.proofs.Common.{◌≡◌, ℕ, Bool, true, false, ◌||◌, cond, List, [], ◌∷◌, ◌++◌, map, length, Option, Some, None, refl, sym, ap, ◌∙◌, append_assoc, append-nil, inl, inr}
use Rattle.std.specs.Option.{unwrap_or}
use Rattle.std.specs.Ordering.{nat_cmp, is_eq}
use Rattle.std.specs.Cmp.Lexicographic.{slice_cmp}
use Rattle.std.proofs.lemmas.Bool.{cases_Bool}
use Rattle.std.proofs.lemmas.List.{map-append}
use Rattle.base.specs.Names.{same_name}
use Rattle.base.proofs.NameLaws.{is_eq-same_name, is_one_of-push}
use Rattle.sum_tree.specs.declared.clause.SumClause.{SumClause}
use Rattle.sum_tree.specs.SumFunctionData.{SumFunctionData}
use Rattle.sum_tree.specs.SpecifiedData.{SpecifiedFunctionData}
use Rattle.sum_module.specs.SumSpecData.{SumSpecData}
use Rattle.sum_module.specs.Scope.{all_differ}
use Rattle.base.specs.Names.{is_one_of}
use Rattle.sum_module.specs.Joined.{clauses_of_spec, clauses_among}
use Rattle.sum_module.specs.ClauseTable.{names_among}
use Rattle.sum_module.proofs.NameLemmas.{same_name-symm, same_name-is, not_before}

abbrev pub Table : Type 0
Table = List ℕ → Option (List SumClause)

abbrev pub at : Table → List ℕ → List SumClause
at t name = unwrap_or (t name) []

pub nil_of_length : {X : Type 0} (xs : List X) → length xs ≡ 0 → xs ≡ []
nil_of_length [] e = refl
nil_of_length (x ∷ xs) e = absurd (cc)

-- ---- spec blocks

-- the clauses of a name are removed, and put back followed by those of a spec block
pub spec_writes : (s : SumSpecData) (q : List ℕ) (v : List SumClause) (old mid new : Table) → mid q ≡ cond (same_name s.target q) None (old q) → new q ≡ cond (is_eq (slice_cmp nat_cmp s.target q)) (Some v) (mid q) → v ≡ at old s.target ++ s.clauses
    → at new q ≡ at old q ++ clauses_of_spec q s
spec_writes s q v old mid new out into is =
    ap (λ o. unwrap_or o []) (into ∙ ap (λ b. cond b (Some v) (mid q)) (is_eq-same_name s.target q) ∙ ap (cond (same_name s.target q) (Some v)) out)
    ∙ elim (cases_Bool (same_name s.target q)) [
      | inl y ↦
          ap (λ b. unwrap_or (cond b (Some v) (cond b None (old q))) []) y ∙ is ∙ ap (λ name. at old name ++ s.clauses) (same_name-is s.target q y)
          ∙ ap (λ b. at old q ++ cond b s.clauses []) (sym y)
      | inr n ↦
          ap (λ b. unwrap_or (cond b (Some v) (cond b None (old q))) []) n ∙ sym (append-nil (at old q)) ∙ ap (λ b. at old q ++ cond b s.clauses []) (sym n)
    ]

-- the table has the clauses of the spec blocks before `rest`
pub record Grows (t : Table) (all rest : List SumSpecData) : Type 0 where
  pub grown : (q : List ℕ) → at t q ++ clauses_among q rest ≡ clauses_among q all

pub grows_more : {t u : Table} {all rest : List SumSpecData} (s : SumSpecData) (left : List SumSpecData) → Grows t all rest → rest ≡ s ∷ left → ((q : List ℕ) → at u q ≡ at t q ++ clauses_of_spec q s) → Grows u all left
grows_more {t} {u} {all} {rest} s left g is more = record {
  grown = λ q. ap (λ cs. cs ++ clauses_among q left) (more q) ∙ append_assoc (at t q) (clauses_of_spec q s) (clauses_among q left) ∙ ap (λ ss. at t q ++ clauses_among q ss) (sym is) ∙ g.grown q;
}

pub grows_end : {t : Table} {all rest : List SumSpecData} → Grows t all rest → rest ≡ [] → (q : List ℕ) → at t q ≡ clauses_among q all
grows_end {t} {all} {rest} g is q = sym (append-nil (at t q)) ∙ ap (λ ss. at t q ++ clauses_among q ss) (sym is) ∙ g.grown q

-- ---- functions

abbrev pub with : Table → SumFunctionData → SpecifiedFunctionData
with t f = record { function = f; clauses = at t f.name }

-- the functions before `rest` took their clauses from the table `old`, and `t` is what is left of it
pub record Serves (old t : Table) (all rest : List SumFunctionData) (made : List SpecifiedFunctionData) : Type 0 where
  pub done : List SumFunctionData
  pub parts : all ≡ done ++ rest
  pub made_is : made ≡ map (with old) done
  pub left : (q : List ℕ) → t q ≡ cond (is_one_of (names_among done) q) None (old q)

pub serves_start : (t : Table) (all : List SumFunctionData) → Serves t t all all []
serves_start t all = record { done = []; parts = refl; made_is = refl; left = λ q. refl }

pub names_append : (xs ys : List SumFunctionData) → names_among (xs ++ ys) ≡ names_among xs ++ names_among ys
names_append xs ys = map-append (λ f. f.name) xs ys

pub serves_more : {old t u : Table} {all rest : List SumFunctionData} {made more : List SpecifiedFunctionData} (f : SumFunctionData) (behind : List SumFunctionData) (one : SpecifiedFunctionData) → all_differ (names_among all) ≡ true
    → Serves old t all rest made → rest ≡ f ∷ behind → one ≡ with t f → ((q : List ℕ) → u q ≡ cond (same_name f.name q) None (t q)) → more ≡ made ++ one ∷ [] → Serves old u all behind more
serves_more {old} {t} {u} {all} {rest} {made} {more} f behind one d s is one_is taken more_is =
    let all_is = s.parts ∙ ap (λ r. s.done ++ r) is in
    let new = not_before (names_among s.done) f.name (names_among behind) (sym (ap (λ fs. all_differ (names_among fs)) all_is ∙ ap all_differ (names_append s.done (f ∷ behind))) ∙ d) in
    let same = s.left f.name ∙ ap (λ b. cond b None (old f.name)) new in
    record {
      done = s.done ++ f ∷ [];
      parts = all_is ∙ sym (append_assoc s.done (f ∷ []) behind);
      made_is = more_is ∙ ap (λ m. m ++ one ∷ []) s.made_is
          ∙ ap (λ x. map (with old) s.done ++ x ∷ []) (one_is ∙ ap (λ o. record { function = f; clauses = unwrap_or o [] }) same)
          ∙ sym (map-append (with old) s.done (f ∷ []));
      left = λ q. taken q ∙ ap (λ o. cond (same_name f.name q) None o) (s.left q) ∙ one_less (is_one_of (names_among s.done) q) (same_name f.name q) (old q)
          ∙ ap (λ b. cond (is_one_of (names_among s.done) q || (b || false)) None (old q)) (same_name-symm f.name q)
          ∙ ap (λ b. cond b None (old q)) (sym (ap (λ ns. is_one_of ns q) (names_append s.done (f ∷ [])) ∙ is_one_of-push (names_among s.done) f.name q));
    }
  where
    one_less : (a b : Bool) (o : Option (List SumClause)) → cond b None (cond a None o) ≡ cond (a || (b || false)) None o
    one_less true true o = refl
    one_less true false o = refl
    one_less false true o = refl
    one_less false false o = refl

pub serves_end : {old t : Table} {all rest : List SumFunctionData} {made : List SpecifiedFunctionData} → Serves old t all rest made → rest ≡ [] → made ≡ map (with old) all
serves_end {old} {t} {all} {rest} {made} s is = s.made_is ∙ ap (map (with old)) (sym (s.parts ∙ ap (λ r. s.done ++ r) is ∙ append-nil s.done))

-- functions with the clauses of a table that has those of the spec blocks
pub all_served : (t : Table) (specs : List SumSpecData) → ((q : List ℕ) → at t q ≡ clauses_among q specs) → (fs : List SumFunctionData) → map (with t) fs ≡ map (λ f. record { function = f; clauses = clauses_among f.name specs }) fs
all_served t specs e [] = refl
all_served t specs e (f ∷ fs) = ap (λ cs. record { function = f; clauses = cs } ∷ map (with t) fs) (e f.name) ∙ ap (λ more. record { function = f; clauses = clauses_among f.name specs } ∷ more) (all_served t specs e fs)
