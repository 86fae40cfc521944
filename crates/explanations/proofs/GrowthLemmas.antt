-- Equations in explanations over a pool that is extended.
use Rattle.std.proofs.Common.{◌≡◌, ◌⊎◌, inl, inr, ℕ, zero, suc, ◌<◌, ◌≤◌, List, length, Option, sym, ap, ◌∙◌, subst, arith}
use Rattle.fol.specs.declared.operators.Comparison.TheVariants.{Eq}
use Rattle.fol.specs.declared.operators.Junction.TheVariants.{AnyOf}
use Rattle.fol.specs.FormulaData.{TermData, FormulaData, CompareFormula, JoinFormula, NoFormulas, EqFormula}
use Rattle.term_pool.specs.Items.{TermSort, Sort, sort_of, term_in, formula_in}
use Rattle.term_pool.specs.Pools.{HasPart, Extends}
use Rattle.term_pool.specs.declared.node.Node.{Node}
use Rattle.term_pool.proofs.ItemLemmas.{item_kept, item_past}
use Rattle.certificates.specs.BranchesBranch.{Branch}
use Rattle.certificates.specs.Names.{above_term}
use Rattle.certificates.specs.Due.{IsShallow}
use Rattle.explanations.specs.Chains.{term_at, formula_at, ChainData, Keeps, IsAt, CanBegin}
use Rattle.explanations.proofs.FrameLemmas.{longer}
use Rattle.congruence_closure.specs.declared.proof_forest.Join.{Join}
use Rattle.congruence_closure.specs.Numbers.{number_at}
use Rattle.explanations.specs.Routes.{IsEquation, IsEither, CanPass, CanGo}

less_or : (m n : ℕ) → (m < n) ⊎ (n ≤ m)
less_or m zero = inr (omega arith)
less_or zero (suc n) = inl (omega arith)
less_or (suc m) (suc n) = elim (less_or m n) [ inl h ↦ inl (omega arith) | inr h ↦ inr (omega arith) ]

pub part_grown : (ns ms : List Node) → Extends ns ms → (k : ℕ) (s : Sort) → HasPart ns (length ns) k s → HasPart ms (length ms) k s
part_grown ns ms x k s p = record { earlier = omega (arith, p.earlier, longer x); sort = ap sort_of (item_kept ns ms x k p.earlier) ∙ p.sort }

pub term_grown : (ns ms : List Node) → Extends ns ms → (k : ℕ) (s : Sort) → HasPart ns (length ns) k s → term_at ms k ≡ term_at ns k
term_grown ns ms x k s p = ap term_in (item_kept ns ms x k p.earlier)

-- a formula other than the default for a missing node occurs in the pool
formula_within : (ns : List Node) (k : ℕ) (p : FormulaData) → (p ≡ JoinFormula AnyOf NoFormulas → ⊥) → formula_at ns k ≡ p → k < length ns
formula_within ns k p some e = elim (less_or k (length ns)) [ inl h ↦ h | inr h ↦ absurd (some (sym e ∙ ap formula_in (item_past ns k h))) ]

pub at_grown : (ns ms : List Node) → Extends ns ms → (d e : ChainData) → Keeps d e → (position : ℕ) (p : FormulaData) → (p ≡ JoinFormula AnyOf NoFormulas → ⊥) → IsAt ns d position p → IsAt ms e position p
at_grown ns ms x d e k position p some h = record { number = h.number; found = k.kept position h.number h.found; is = ap formula_in (item_kept ns ms x h.number (formula_within ns h.number p some h.is)) ∙ h.is }

an_equation : (t u : TermData) → EqFormula t u ≡ JoinFormula AnyOf NoFormulas → ⊥
an_equation t u e = let both : CompareFormula Eq t u ≡ JoinFormula AnyOf NoFormulas = e in absurd (cc)

pub equation_within : (ns : List Node) (k : ℕ) (t u : TermData) → formula_at ns k ≡ EqFormula t u → k < length ns
equation_within ns k t u e = formula_within ns k (EqFormula t u) (an_equation t u) e

-- the equation of terms, over the larger pool
pub equation_by : (ns ms : List Node) → Extends ns ms → (e : ChainData) (position left right : ℕ) → HasPart ns (length ns) left TermSort → HasPart ns (length ns) right TermSort → IsAt ms e position (EqFormula (term_at ns left) (term_at ns right)) → IsEquation ms e position left right
equation_by ns ms x e position left right p q h =
    let t : term_at ms left ≡ term_at ns left = term_grown ns ms x left TermSort p in
    let u : term_at ms right ≡ term_at ns right = term_grown ns ms x right TermSort q in
    record {
      left_term = part_grown ns ms x left TermSort p;
      right_term = part_grown ns ms x right TermSort q;
      at = subst (IsAt ms e position) (λ i. EqFormula (sym t i) (sym u i)) h;
    }

pub equation_grown : (ns ms : List Node) → Extends ns ms → (d e : ChainData) → Keeps d e → (position left right : ℕ) → IsEquation ns d position left right → IsEquation ms e position left right
equation_grown ns ms x d e k position left right h =
    equation_by ns ms x e position left right h.left_term h.right_term (at_grown ns ms x d e k position (EqFormula (term_at ns left) (term_at ns right)) (an_equation (term_at ns left) (term_at ns right)) h.at)

pub either_grown : (ns ms : List Node) → Extends ns ms → (d e : ChainData) → Keeps d e → (position left right : ℕ) → IsEither ns d position left right → IsEither ms e position left right
either_grown ns ms x d e k position left right (inl h) = inl (equation_grown ns ms x d e k position left right h)
either_grown ns ms x d e k position left right (inr h) = inr (equation_grown ns ms x d e k position right left h)

pub near_term : (ns : List Node) (d : ChainData) (position left right : ℕ) → IsEither ns d position left right → HasPart ns (length ns) left TermSort
near_term ns d position left right (inl h) = h.left_term
near_term ns d position left right (inr h) = h.right_term

pub far_term : (ns : List Node) (d : ChainData) (position left right : ℕ) → IsEither ns d position left right → HasPart ns (length ns) right TermSort
far_term ns d position left right (inl h) = h.right_term
far_term ns d position left right (inr h) = h.left_term

pub keeps_then : (c d e : ChainData) → Keeps c d → Keeps d e → Keeps c e
keeps_then c d e k l = record { kept = λ position n f. l.kept position n (k.kept position n f); variable = l.variable ∙ k.variable }

pub begin_kept : (b : Branch) (d e : ChainData) (t : TermData) → Keeps d e → CanBegin b d t → CanBegin b e t
begin_kept b d e t k c = record { stands = c.stands; shallow = c.shallow; below = subst (λ v. above_term t ≤ v) (sym k.variable) c.below }

pub begin_grown : (ns ms : List Node) → Extends ns ms → (b : Branch) (d e : ChainData) → Keeps d e → (k : ℕ) (s : Sort) → HasPart ns (length ns) k s → CanBegin b d (term_at ns k) → CanBegin b e (term_at ms k)
begin_grown ns ms x b d e k n s p c = subst (CanBegin b e) (sym (term_grown ns ms x n s p)) (begin_kept b d e (term_at ns n) k c)

pub pass_grown : (ns ms : List Node) → Extends ns ms → (d e : ChainData) → Keeps d e → (numbers : List ℕ) (equations : List (Option ℕ)) (left : ℕ) (join : Join) → HasPart ns (length ns) left TermSort → CanPass ns d numbers equations left join → CanPass ms e numbers equations left join
pass_grown ns ms x d e k numbers equations left join p c =
    let near : ℕ = number_at numbers join.near in
    let far : ℕ = number_at numbers join.far in
    let t : term_at ms left ≡ term_at ns left = term_grown ns ms x left TermSort p in
    let u : term_at ms (number_at numbers join.far) ≡ term_at ns (number_at numbers join.far) = term_grown ns ms x (number_at numbers join.far) TermSort (far_term ns d c.position near far c.equation) in
    record {
      position = c.position;
      found = c.found;
      equation = either_grown ns ms x d e k c.position near far c.equation;
      shallow = subst IsShallow (λ i. EqFormula (sym t i) (sym u i)) c.shallow;
    }

pub go_grown : (ns ms : List Node) → Extends ns ms → (d e : ChainData) → Keeps d e → (numbers : List ℕ) (equations : List (Option ℕ)) (from : ℕ) (route : List Join) → CanGo ns d numbers equations from route → CanGo ms e numbers equations from route
go_grown ns ms x d e k numbers equations from route g = record {
  begins = part_grown ns ms x (number_at numbers from) TermSort g.begins;
  leads = g.leads;
  pass = λ n join f. pass_grown ns ms x d e k numbers equations (number_at numbers from) join g.begins (g.pass n join f);
}
