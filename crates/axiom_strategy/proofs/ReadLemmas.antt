-- Memories and vectors that are read, and the terms they are made of.
use Rattle.std.proofs.Common.{◌≡◌, ◌⊎◌, ℕ, List, [], ◌∷◌, Option, Some, None, refl, sym, ap, ◌∙◌, subst, arith}
use Rattle.std.specs.Prelude.{Contains}
use Rattle.fol.specs.declared.operators.Unary.TheVariants.{Pop, Len}
use Rattle.fol.specs.declared.operators.Binary.{Binary as BinaryOperator}
use Rattle.fol.specs.declared.operators.Binary.TheVariants.{Select, At, Push}
use Rattle.fol.specs.declared.operators.Ternary.TheVariants.{Store, Set}
use Rattle.fol.specs.FormulaData.{TermData, VarTerm, ConstantTerm, UnaryTerm, BinaryTerm, TernaryTerm, PackTerm, FieldTerm, SetFieldTerm, IfTerm, FormulaData}
use Rattle.term_pool.specs.Items.{TermItem, term_in}
use Rattle.term_pool.specs.Pools.{IsOneNumber}
use Rattle.term_pool.specs.declared.node.Node.{Node}
use Rattle.certificates.specs.BranchesBranch.{Branch, IsTerm}
use Rattle.certificates.specs.BranchesParts.{parts_of_term, IsIn, IsInFormula, Itself, InPart, InCondition, InLeft, InRight, InTyped, InHolds, InDenied, InJoined, InFirst, InSecond}
use Rattle.tableau.specs.Terms.{IsBranchTerm}
use Rattle.axiom_instances.specs.declared.reading.TermForm.{TermForm}
use Rattle.axiom_instances.specs.declared.reading.TermForm.TheVariants.{Constant, Unary, Binary, Ternary, If, Pack, SetField, Other}
use Rattle.axiom_instances.specs.Numbers.{IsTermNumber, HasForm, IsBinary, IsOtherTerm, IsVariable, IsField, IsNone, term_at, terms_at, type_at, formula_at}
use Rattle.axiom_instances.specs.Present.{IsReadAt, StoreRead, PushRead, PopRead, SetRead}
use Rattle.axiom_strategy.specs.declared.reads.Reading.{Reading}
use Rattle.axiom_strategy.specs.declared.reads.Reading.TheVariants.{OfMemory, OfVector}
use Rattle.axiom_strategy.specs.Reads.{operator_of, read_parts, made_of, IsReadBy}
use Rattle.axiom_strategy.proofs.DueLemmas.{term_number}
use Rattle.axiom_strategy.proofs.TypedLemmas.{same_number}

-- ---- parts of what is on a branch

mutual
  part_in : (t s : TermData) → Contains (parts_of_term t) s → (u : TermData) → IsIn t u → IsIn s u
  part_in t s m _ Itself = InPart t s m Itself
  part_in t s m _ (InPart u v c h) = InPart u v c (part_in t s m v h)
  part_in t s m _ (InCondition p u v h) = InCondition p u v (part_in_formula t s m p h)

  part_in_formula : (t s : TermData) → Contains (parts_of_term t) s → (p : FormulaData) → IsInFormula t p → IsInFormula s p
  part_in_formula t s m _ (InLeft o u v h) = InLeft o u v (part_in t s m u h)
  part_in_formula t s m _ (InRight o u v h) = InRight o u v (part_in t s m v h)
  part_in_formula t s m _ (InTyped a u h) = InTyped a u (part_in t s m u h)
  part_in_formula t s m _ (InHolds u h) = InHolds u (part_in t s m u h)
  part_in_formula t s m _ (InDenied p h) = InDenied p (part_in_formula t s m p h)
  part_in_formula t s m _ (InJoined o ps p c h) = InJoined o ps p c (part_in_formula t s m p h)
  part_in_formula t s m _ (InFirst o p q h) = InFirst o p q (part_in_formula t s m p h)
  part_in_formula t s m _ (InSecond o p q h) = InSecond o p q (part_in_formula t s m q h)

pub part_stands : (b : Branch) (t s : TermData) → Contains (parts_of_term t) s → IsTerm b t → IsTerm b s
part_stands b t s m h = record {
  generation = h.generation;
  holds = record {
    position = h.holds.position;
    entry = h.holds.entry;
    found = h.holds.found;
    inside = part_in_formula t s m h.holds.entry.formula h.holds.inside;
    same = h.holds.same;
  };
}

pub the_first : (t : TermData) (ts : List TermData) → Contains (t ∷ ts) t
the_first t ts = (0, omega arith, refl)

pub the_second : (t u : TermData) (ts : List TermData) → Contains (t ∷ u ∷ ts) u
the_second t u ts = (1, omega arith, refl)

-- a part by number of a term of the branch
part_term : (ns : List Node) (b : Branch) (n m : ℕ) (t : TermData) → IsTerm b (term_at ns n) → term_at ns n ≡ t → Contains (parts_of_term t) (term_at ns m) → IsTermNumber ns m → IsBranchTerm ns b m
part_term ns b n m t h e c number = record { number = term_number number; stands = part_stands b t (term_at ns m) c (subst (IsTerm b) e h) }

pub binary_terms : {ns : List Node} {b : Branch} {o : BinaryOperator} {n m k : ℕ} → IsBranchTerm ns b n → IsBinary ns o n m k → IsBranchTerm ns b m × IsBranchTerm ns b k
binary_terms {ns} {b} {o} {n} {m} {k} s h =
    let t : TermData = term_at ns m in
    let u : TermData = term_at ns k in
    let whole : term_at ns n ≡ BinaryTerm o t u = ap term_in h.whole.is in
    (part_term ns b n m (BinaryTerm o t u) s.stands whole (the_first t (u ∷ [])) h.first, part_term ns b n k (BinaryTerm o t u) s.stands whole (the_second t u []) h.second)

-- ---- reads by form

pub read_form : (ns : List Node) (n : ℕ) (reading : Reading) (form : TermForm) (p : ℕ × ℕ) → HasForm ns n form → read_parts reading form ≡ Some p → IsBinary ns (operator_of reading) n p.0 p.1
read_form ns n OfMemory (Binary Select m k) p h e = let same : (m, k) ≡ p = cc in subst (λ (q : ℕ × ℕ). IsBinary ns Select n q.0 q.1) same h
read_form ns n OfMemory (Binary _ m k) p h e = absurd (cc)
read_form ns n OfMemory (Constant c) p h e = absurd (cc)
read_form ns n OfMemory (Unary o a) p h e = absurd (cc)
read_form ns n OfMemory (Ternary o a c d) p h e = absurd (cc)
read_form ns n OfMemory (If q a c) p h e = absurd (cc)
read_form ns n OfMemory (Pack s us) p h e = absurd (cc)
read_form ns n OfMemory (SetField l s a c) p h e = absurd (cc)
read_form ns n OfMemory Other p h e = absurd (cc)
read_form ns n OfVector (Binary At v i) p h e = let same : (v, i) ≡ p = cc in subst (λ (q : ℕ × ℕ). IsBinary ns At n q.0 q.1) same h
read_form ns n OfVector (Binary _ v i) p h e = absurd (cc)
read_form ns n OfVector (Constant c) p h e = absurd (cc)
read_form ns n OfVector (Unary o a) p h e = absurd (cc)
read_form ns n OfVector (Ternary o a c d) p h e = absurd (cc)
read_form ns n OfVector (If q a c) p h e = absurd (cc)
read_form ns n OfVector (Pack s us) p h e = absurd (cc)
read_form ns n OfVector (SetField l s a c) p h e = absurd (cc)
read_form ns n OfVector Other p h e = absurd (cc)

other_binary : {t : TermData} (o : BinaryOperator) (u v : TermData) → IsOtherTerm t → t ≡ BinaryTerm o u v → ⊥
other_binary o u v (IsVariable n) e = absurd (cc)
other_binary o u v (IsField s k t) e = absurd (cc)
other_binary o u v IsNone e = absurd (cc)

-- a binary term has the form of its head
pub binary_form : (ns : List Node) → IsOneNumber ns → (n : ℕ) (form : TermForm) (o : BinaryOperator) (m k : ℕ) → HasForm ns n form → IsBinary ns o n m k → form ≡ Binary o m k
binary_form ns one n (Constant c) o m k h g = let both : TermItem (ConstantTerm c) ≡ TermItem (BinaryTerm o (term_at ns m) (term_at ns k)) = sym h.is ∙ g.whole.is in absurd (cc)
binary_form ns one n (Unary q a) o m k h g = let both : TermItem (UnaryTerm q (term_at ns a)) ≡ TermItem (BinaryTerm o (term_at ns m) (term_at ns k)) = sym h.whole.is ∙ g.whole.is in absurd (cc)
binary_form ns one n (Binary q a x) o m k h g =
    let both : TermItem (BinaryTerm q (term_at ns a) (term_at ns x)) ≡ TermItem (BinaryTerm o (term_at ns m) (term_at ns k)) = sym h.whole.is ∙ g.whole.is in
    let head : q ≡ o = cc in
    let first : term_at ns a ≡ term_at ns m = cc in
    let second : term_at ns x ≡ term_at ns k = cc in
    let left : a ≡ m = same_number ns one a m h.first g.first first in
    let right : x ≡ k = same_number ns one x k h.second g.second second in
    λ i. Binary (head i) (left i) (right i)
binary_form ns one n (Ternary q a x y) o m k h g = let both : TermItem (TernaryTerm q (term_at ns a) (term_at ns x) (term_at ns y)) ≡ TermItem (BinaryTerm o (term_at ns m) (term_at ns k)) = sym h.whole.is ∙ g.whole.is in absurd (cc)
binary_form ns one n (If q a x) o m k h g = let both : TermItem (IfTerm (formula_at ns q) (term_at ns a) (term_at ns x)) ≡ TermItem (BinaryTerm o (term_at ns m) (term_at ns k)) = sym h.whole.is ∙ g.whole.is in absurd (cc)
binary_form ns one n (Pack s us) o m k h g = let both : TermItem (PackTerm (type_at ns s) (terms_at ns us)) ≡ TermItem (BinaryTerm o (term_at ns m) (term_at ns k)) = sym h.whole.is ∙ g.whole.is in absurd (cc)
binary_form ns one n (SetField l s a x) o m k h g = let both : TermItem (SetFieldTerm (type_at ns s) l (term_at ns a) (term_at ns x)) ≡ TermItem (BinaryTerm o (term_at ns m) (term_at ns k)) = sym h.whole.is ∙ g.whole.is in absurd (cc)
binary_form ns one n Other o m k h g = absurd (other_binary o (term_at ns m) (term_at ns k) h.other (ap term_in g.whole.is))

parts_read : (reading : Reading) (m k : ℕ) → read_parts reading (Binary (operator_of reading) m k) ≡ Some (m, k)
parts_read OfMemory m k = refl
parts_read OfVector m k = refl

some_none : (p : ℕ × ℕ) → Some p ≡ None → ⊥
some_none p e = absurd (cc)

pub no_read_form : (ns : List Node) → IsOneNumber ns → (n : ℕ) (reading : Reading) (form : TermForm) → HasForm ns n form → read_parts reading form ≡ None → (p : ℕ × ℕ) → IsBinary ns (operator_of reading) n p.0 p.1 → ⊥
no_read_form ns one n reading form h none p g =
    let is = binary_form ns one n form (operator_of reading) p.0 p.1 h g in
    some_none (p.0, p.1) (sym (parts_read reading p.0 p.1) ∙ ap (read_parts reading) (sym is) ∙ none)

-- the term has only these parts
pub same_parts : (ns : List Node) → IsOneNumber ns → (n : ℕ) (o : BinaryOperator) (a x m k : ℕ) → IsBinary ns o n a x → IsBinary ns o n m k → (a ≡ m) × (x ≡ k)
same_parts ns one n o a x m k h g = let is : Binary o a x ≡ Binary o m k = binary_form ns one n (Binary o a x) o m k h g in (cc, cc)

-- ---- the term that a term is made of

abbrev pub made_term : TermData → Option (Reading × TermData)
made_term (UnaryTerm Pop v) = Some (OfVector, v)
made_term (BinaryTerm Push v x) = Some (OfVector, v)
made_term (TernaryTerm Store m a v) = Some (OfMemory, m)
made_term (TernaryTerm Set v i x) = Some (OfVector, v)
made_term _ = None

abbrev pub base_in : List Node → Option (Reading × ℕ) → Option (Reading × TermData)
base_in ns None = None
base_in ns (Some p) = Some (p.0, term_at ns p.1)

-- the term is read at this index, or the one it is made of is
abbrev pub IsReadHere : Branch → TermData → TermData → Option (Reading × TermData) → Type 0
IsReadHere b t k None = ⊥
IsReadHere b t k (Some p) = IsReadBy b p.0 t k ⊎ IsReadBy b p.0 p.1 k

other_made : {t : TermData} → IsOtherTerm t → made_term t ≡ None
other_made (IsVariable n) = refl
other_made (IsField s k t) = refl
other_made IsNone = refl

pub made_is : (ns : List Node) (n : ℕ) (form : TermForm) → HasForm ns n form → made_term (term_at ns n) ≡ base_in ns (made_of form)
made_is ns n (Constant c) h = ap made_term (ap term_in h.is)
made_is ns n (Unary Pop v) h = ap made_term (ap term_in h.whole.is)
made_is ns n (Unary Len v) h = ap made_term (ap term_in h.whole.is)
made_is ns n (Binary Push v x) h = ap made_term (ap term_in h.whole.is)
made_is ns n (Binary _ v x) h = ap made_term (ap term_in h.whole.is)
made_is ns n (Ternary Store m a v) h = ap made_term (ap term_in h.whole.is)
made_is ns n (Ternary Set v i x) h = ap made_term (ap term_in h.whole.is)
made_is ns n (If p a c) h = ap made_term (ap term_in h.whole.is)
made_is ns n (Pack s us) h = ap made_term (ap term_in h.whole.is)
made_is ns n (SetField l s a c) h = ap made_term (ap term_in h.whole.is)
made_is ns n Other h = other_made h.other

-- that one is a term of the branch too
pub base_term : (ns : List Node) (b : Branch) (n : ℕ) (form : TermForm) (p : Reading × ℕ) → IsTerm b (term_at ns n) → HasForm ns n form → made_of form ≡ Some p → IsBranchTerm ns b p.1
base_term ns b n (Unary Pop v) p s h e =
    let same : (OfVector, v) ≡ p = cc in
    subst (λ (q : Reading × ℕ). IsBranchTerm ns b q.1) same (part_term ns b n v (UnaryTerm Pop (term_at ns v)) s (ap term_in h.whole.is) (the_first (term_at ns v) []) h.part)
base_term ns b n (Unary Len v) p s h e = absurd (cc)
base_term ns b n (Binary Push v x) p s h e =
    let same : (OfVector, v) ≡ p = cc in
    subst (λ (q : Reading × ℕ). IsBranchTerm ns b q.1) same (part_term ns b n v (BinaryTerm Push (term_at ns v) (term_at ns x)) s (ap term_in h.whole.is) (the_first (term_at ns v) (term_at ns x ∷ [])) h.first)
base_term ns b n (Binary _ v x) p s h e = absurd (cc)
base_term ns b n (Ternary Store m a v) p s h e =
    let same : (OfMemory, m) ≡ p = cc in
    subst (λ (q : Reading × ℕ). IsBranchTerm ns b q.1) same (part_term ns b n m (TernaryTerm Store (term_at ns m) (term_at ns a) (term_at ns v)) s (ap term_in h.whole.is) (the_first (term_at ns m) (term_at ns a ∷ term_at ns v ∷ [])) h.first)
base_term ns b n (Ternary Set v i x) p s h e =
    let same : (OfVector, v) ≡ p = cc in
    subst (λ (q : Reading × ℕ). IsBranchTerm ns b q.1) same (part_term ns b n v (TernaryTerm Set (term_at ns v) (term_at ns i) (term_at ns x)) s (ap term_in h.whole.is) (the_first (term_at ns v) (term_at ns i ∷ term_at ns x ∷ [])) h.first)
base_term ns b n (Constant c) p s h e = absurd (cc)
base_term ns b n (If q a c) p s h e = absurd (cc)
base_term ns b n (Pack t us) p s h e = absurd (cc)
base_term ns b n (SetField l t a c) p s h e = absurd (cc)
base_term ns b n Other p s h e = absurd (cc)

pub read_cases : {b : Branch} {t k : TermData} → IsReadAt b t k → IsReadHere b t k (made_term t)
read_cases (StoreRead m a v k h) = h
read_cases (PushRead v x i h) = h
read_cases (PopRead v i h) = h
read_cases (SetRead v i x j h) = h

pub read_back : (b : Branch) (t k : TermData) → IsReadHere b t k (made_term t) → IsReadAt b t k
read_back b (UnaryTerm Pop v) k h = PopRead v k h
read_back b (BinaryTerm Push v x) k h = PushRead v x k h
read_back b (TernaryTerm Store m a v) k h = StoreRead m a v k h
read_back b (TernaryTerm Set v i x) k h = SetRead v i x k h
read_back b (VarTerm n) k h = absurd h
read_back b (ConstantTerm c) k h = absurd h
read_back b (UnaryTerm Len v) k h = absurd h
read_back b (BinaryTerm _ v x) k h = absurd h
read_back b (PackTerm a ts) k h = absurd h
read_back b (FieldTerm a i t) k h = absurd h
read_back b (SetFieldTerm a i t u) k h = absurd h
read_back b (IfTerm p t u) k h = absurd h
