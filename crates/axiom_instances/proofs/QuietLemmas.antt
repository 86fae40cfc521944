-- Terms that trigger no instance when they are read, and beside a vector type.
use Rattle.std.proofs.Common.{◌≡◌, ℕ, Bool, true, false, List, [], refl, ap}
use Rattle.base.specs.TypeData.{TypeData}
use Rattle.fol.specs.declared.operators.Constant.{Constant as FolConstant}
use Rattle.fol.specs.declared.operators.Constant.TheVariants.{Empty}
use Rattle.fol.specs.declared.operators.Unary.{Unary as FolUnary}
use Rattle.fol.specs.declared.operators.Unary.TheVariants.{Len, Pop}
use Rattle.fol.specs.declared.operators.Binary.{Binary as FolBinary}
use Rattle.fol.specs.declared.operators.Binary.TheVariants.{Push}
use Rattle.fol.specs.declared.operators.Ternary.{Ternary as FolTernary}
use Rattle.fol.specs.declared.operators.Ternary.TheVariants.{Store, Set}
use Rattle.fol.specs.FormulaData.{TermData}
use Rattle.term_pool.specs.Items.{term_in}
use Rattle.term_pool.specs.declared.node.Node.{Node}
use Rattle.axiom_instances.specs.declared.reading.TermForm.{TermForm}
use Rattle.axiom_instances.specs.declared.reading.TermForm.TheVariants.{Constant, Unary, Binary, Ternary, If, Pack, SetField, Other}
use Rattle.axiom_instances.specs.Numbers.{HasForm, IsOtherTerm, IsVariable, IsField, IsNone, term_at}
use Rattle.axiom_instances.specs.PairRows.{read_rows, vector_rows}

-- ---- when they are read

abbrev pub is_read : TermForm → Bool
is_read (Unary Pop v) = true
is_read (Binary Push v x) = true
is_read (Ternary o a b c) = true
is_read _ = false

other_read : (k : TermData) {t : TermData} → IsOtherTerm t → read_rows t k ≡ []
other_read k (IsVariable n) = refl
other_read k (IsField s l t) = refl
other_read k IsNone = refl

pub quiet_read : (ns : List Node) (n : ℕ) (k : TermData) (f : TermForm) → HasForm ns n f → is_read f ≡ false → read_rows (term_at ns n) k ≡ []
quiet_read ns n k (Constant c) h e = ap (λ t. read_rows t k) (ap term_in h.is)
quiet_read ns n k (Unary Len v) h e = ap (λ t. read_rows t k) (ap term_in h.whole.is)
quiet_read ns n k (Unary Pop v) h e = absurd (cc)
quiet_read ns n k (Binary Push v x) h e = absurd (cc)
quiet_read ns n k (Binary _ v x) h e = ap (λ t. read_rows t k) (ap term_in h.whole.is)
quiet_read ns n k (Ternary o a b c) h e = absurd (cc)
quiet_read ns n k (If p a b) h e = ap (λ t. read_rows t k) (ap term_in h.whole.is)
quiet_read ns n k (Pack s us) h e = ap (λ t. read_rows t k) (ap term_in h.whole.is)
quiet_read ns n k (SetField l s a b) h e = ap (λ t. read_rows t k) (ap term_in h.whole.is)
quiet_read ns n k Other h e = other_read k h.other

pub not_pushed : (o : FolBinary) (v x : ℕ) → (o ≡ Push → ⊥) → is_read (Binary o v x) ≡ false
not_pushed Push v x d = absurd (d refl)
not_pushed _ v x d = refl

pub not_read : (f : TermForm) → ((o : FolUnary) (x : ℕ) → f ≡ Unary o x → ⊥) → ((o : FolBinary) (x y : ℕ) → f ≡ Binary o x y → ⊥) → ((o : FolTernary) (x y z : ℕ) → f ≡ Ternary o x y z → ⊥) → is_read f ≡ false
not_read (Unary o x) d e f = absurd (d o x refl)
not_read (Binary o x y) d e f = absurd (e o x y refl)
not_read (Ternary o x y z) d e f = absurd (f o x y z refl)
not_read _ d e f = refl

-- ---- beside a vector type

abbrev pub is_made : TermForm → Bool
is_made (Constant Empty) = true
is_made (Unary Pop v) = true
is_made (Binary Push v x) = true
is_made (Ternary Set a b c) = true
is_made _ = false

other_made : (a : TypeData) {t : TermData} → IsOtherTerm t → vector_rows a t ≡ []
other_made a (IsVariable n) = refl
other_made a (IsField s l t) = refl
other_made a IsNone = refl

pub quiet_made : (ns : List Node) (n : ℕ) (a : TypeData) (f : TermForm) → HasForm ns n f → is_made f ≡ false → vector_rows a (term_at ns n) ≡ []
quiet_made ns n a (Constant Empty) h e = absurd (cc)
quiet_made ns n a (Constant _) h e = ap (vector_rows a) (ap term_in h.is)
quiet_made ns n a (Unary Len v) h e = ap (vector_rows a) (ap term_in h.whole.is)
quiet_made ns n a (Unary Pop v) h e = absurd (cc)
quiet_made ns n a (Binary Push v x) h e = absurd (cc)
quiet_made ns n a (Binary _ v x) h e = ap (vector_rows a) (ap term_in h.whole.is)
quiet_made ns n a (Ternary Set b c d) h e = absurd (cc)
quiet_made ns n a (Ternary Store b c d) h e = ap (vector_rows a) (ap term_in h.whole.is)
quiet_made ns n a (If p b c) h e = ap (vector_rows a) (ap term_in h.whole.is)
quiet_made ns n a (Pack s us) h e = ap (vector_rows a) (ap term_in h.whole.is)
quiet_made ns n a (SetField l s b c) h e = ap (vector_rows a) (ap term_in h.whole.is)
quiet_made ns n a Other h e = other_made a h.other

pub not_empty : (c : FolConstant) → (c ≡ Empty → ⊥) → is_made (Constant c) ≡ false
not_empty Empty d = absurd (d refl)
not_empty _ d = refl

pub not_pushed_beside : (o : FolBinary) (v x : ℕ) → (o ≡ Push → ⊥) → is_made (Binary o v x) ≡ false
not_pushed_beside Push v x d = absurd (d refl)
not_pushed_beside _ v x d = refl

pub not_made : (f : TermForm) → ((c : FolConstant) → f ≡ Constant c → ⊥) → ((o : FolUnary) (x : ℕ) → f ≡ Unary o x → ⊥) → ((o : FolBinary) (x y : ℕ) → f ≡ Binary o x y → ⊥) → ((o : FolTernary) (x y z : ℕ) → f ≡ Ternary o x y z → ⊥) → is_made f ≡ false
not_made (Constant c) b d e f = absurd (b c refl)
not_made (Unary o x) b d e f = absurd (d o x refl)
not_made (Binary o x y) b d e f = absurd (e o x y refl)
not_made (Ternary o x y z) b d e f = absurd (f o x y z refl)
not_made _ b d e f = refl
