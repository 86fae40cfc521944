-- Terms and types whose form triggers no instance.
use Rattle.std.proofs.Common.{◌≡◌, ℕ, ◌≤◌, ◌⊎◌, inl, inr, ℤ, Bool, true, false, List, [], length, refl, sym, ap, ◌∙◌, subst}
use Rattle.fol.specs.declared.operators.Constant.{Constant as FolConstant}
use Rattle.fol.specs.declared.operators.Constant.TheVariants.{Num, Max, Empty}
use Rattle.fol.specs.declared.operators.Unary.{Unary as FolUnary}
use Rattle.fol.specs.declared.operators.Binary.{Binary as FolBinary}
use Rattle.fol.specs.declared.operators.Binary.TheVariants.{Add, Sub, At}
use Rattle.fol.specs.FormulaData.{TermData}
use Rattle.term_pool.specs.Items.{Item, term_in}
use Rattle.term_pool.specs.Pools.{item_at, IsMade}
use Rattle.term_pool.specs.declared.node.Leaf.{Leaf}
use Rattle.term_pool.specs.declared.node.Leaf.TheVariants.{Var, Constant}
use Rattle.term_pool.specs.declared.node.One.{One}
use Rattle.term_pool.specs.declared.node.One.TheVariants.{Unary}
use Rattle.term_pool.specs.declared.node.Two.{Two}
use Rattle.term_pool.specs.declared.node.Two.TheVariants.{Binary, Pack, Field}
use Rattle.term_pool.specs.declared.node.Three.TheVariants.{TypeStruct}
use Rattle.term_pool.specs.declared.node.Node.{Node}
use Rattle.term_pool.specs.declared.node.Node.TheVariants.{Leaf as LeafNode, One as OneNode, Two as TwoNode, Three as ThreeNode}
use Rattle.term_pool.proofs.ItemLemmas.{item_past}
use Rattle.axiom_instances.specs.declared.reading.TermForm.{TermForm}
use Rattle.axiom_instances.specs.declared.reading.TermForm.TheVariants.{Pack as PackForm, SetField as SetFieldForm, Other as OtherForm}
use Rattle.axiom_instances.specs.declared.reading.DivisorKind.TheVariants.{IsOther as IsOtherDivisor}
use Rattle.axiom_instances.specs.Numbers.{IsOther, IsOtherTerm, IsVariable, IsField, IsNone, IsPack, IsSetField, HasForm, term_at}
use Rattle.axiom_instances.specs.Rows.{constant_rows, is_blank, select_rows, divisor_of, quotient_rows, product_rows, operator_rows, term_rows}

-- a number of a term that triggers no instance
other_item : {ns : List Node} {n : ℕ} {x : Item} → item_at ns n ≡ x → IsOtherTerm (term_in x) → IsOther ns n
other_item e h = record { other = subst IsOtherTerm (sym (ap term_in e)) h }

-- past the nodes there is no term
pub no_term : (ns : List Node) (n : ℕ) → length ns ≤ n → IsOther ns n
no_term ns n h = other_item (item_past ns n h) IsNone

module _ {ns : List Node} {n : ℕ} where
  pub leaf_other : (h : Leaf) → IsMade ns n (LeafNode h) → ((c : FolConstant) → h ≡ Constant c → ⊥) → IsOther ns n
  leaf_other (Constant c) m d = absurd (d c refl)
  leaf_other (Var k) m d = other_item m.item (IsVariable k)
  leaf_other _ m d = other_item m.item IsNone

  pub one_other : (h : One) {a : ℕ} → IsMade ns n (OneNode h a) → ((o : FolUnary) → h ≡ Unary o → ⊥) → IsOther ns n
  one_other (Unary o) m d = absurd (d o refl)
  one_other _ m d = other_item m.item IsNone

  pub two_other : (h : Two) {a b : ℕ} → IsMade ns n (TwoNode h a b) → ((o : FolBinary) → h ≡ Binary o → ⊥) → (h ≡ Pack → ⊥) → IsOther ns n
  two_other (Binary o) m d e = absurd (d o refl)
  two_other Pack m d e = absurd (e refl)
  two_other (Field k) m d e = other_item m.item (IsField _ k _)
  two_other _ m d e = other_item m.item IsNone

  pub three_other : {address a b c : ℕ} → IsMade ns n (ThreeNode (TypeStruct address) a b c) → IsOther ns n
  three_other m = other_item m.item IsNone

-- ---- triggers of no instance

pub not_blank : (m k : TermData) → is_blank m ≡ false → select_rows (is_blank m) m k ≡ []
not_blank m k e = ap (λ p. select_rows p m k) e

pub no_divisor : (t d : TermData) → divisor_of d ≡ IsOtherDivisor → quotient_rows (divisor_of d) t d ≡ []
no_divisor t d e = ap (λ k. quotient_rows k t d) e

pub left_numeral : (p q : Bool) (t u : TermData) → p ≡ true → product_rows p q t u ≡ []
left_numeral p q t u e = ap (λ r. product_rows r q t u) e

pub right_numeral : (p q : Bool) (t u : TermData) → p ≡ false → q ≡ true → product_rows p q t u ≡ []
right_numeral p q t u e f = ap (λ r. product_rows r q t u) e ∙ ap (λ r. product_rows false r t u) f

pub quiet_operator : (o : FolBinary) (t u : TermData) → (o ≡ Add) ⊎ ((o ≡ Sub) ⊎ (o ≡ At)) → operator_rows o t u ≡ []
quiet_operator o t u (inl e) = ap (λ q. operator_rows q t u) e
quiet_operator o t u (inr (inl e)) = ap (λ q. operator_rows q t u) e
quiet_operator o t u (inr (inr e)) = ap (λ q. operator_rows q t u) e

other_rows : {t : TermData} → IsOtherTerm t → term_rows t ≡ []
other_rows (IsVariable n) = refl
other_rows (IsField s k t) = refl
other_rows IsNone = refl

pub quiet_form : (ns : List Node) (n : ℕ) (f : TermForm) → HasForm ns n f → ((x : ℕ) × (y : ℕ) × (f ≡ PackForm x y)) ⊎ (((k : ℕ) × (x : ℕ) × (y : ℕ) × (z : ℕ) × (f ≡ SetFieldForm k x y z)) ⊎ (f ≡ OtherForm)) → term_rows (term_at ns n) ≡ []
quiet_form ns n f h (inl p) = let g : IsPack ns n p.0 p.1 = subst (HasForm ns n) p.2 h in ap term_rows (ap term_in g.whole.is)
quiet_form ns n f h (inr (inl p)) = let g : IsSetField ns p.0 n p.1 p.2 p.3 = subst (HasForm ns n) p.4 h in ap term_rows (ap term_in g.whole.is)
quiet_form ns n f h (inr (inr e)) = let g : IsOther ns n = subst (HasForm ns n) e h in other_rows g.other

-- a constant that triggers no instance
pub quiet_constant : (c : FolConstant) → ((i : ℤ) → c ≡ Num i → ⊥) → (c ≡ Max → ⊥) → (c ≡ Empty → ⊥) → constant_rows c ≡ []
quiet_constant (Num i) d e f = absurd (d i refl)
quiet_constant Max d e f = absurd (e refl)
quiet_constant Empty d e f = absurd (f refl)
quiet_constant _ d e f = refl
