-- The codes by which the logic stores certificates, as trees of numbers, and the inverse maps.
use base.Stored.{Gv, gnil, gnum, gcons, num}
use denote.Struct.Codes.{itself}
use Rattle.std.specs.Prelude.{◌≡◌, List, [], ◌∷◌, refl}
use Rattle.std.specs.Coded.{Coded, code_by}
use Rattle.std.proofs.Common.{ap}
use Rattle.base.specs.Codes.{pick}
use Rattle.axioms.specs.AxiomCodes.{axiom_code, axiom_back, axiom_back-code}
use Rattle.fol.specs.FormulaCodes.{term_code, term_back, term_back-code, formula_code, formula_back, formula_back-code}
use Rattle.fol.specs.OperatorCodes.{head, tail, tree, whole_code, whole_back, whole_back-code}
use Rattle.certificates.specs.CertData.{StepData, PartsStep, AxiomStep, InstanceStep, NameStep, RewriteStep, CloseData, LinearClose, ClashClose, FalseClose, MoveData, StraightMove, ForkedMove, ClosedMove}
use Rattle.certificates.specs.declared.certificate.Cause.{Cause}
use Rattle.certificates.specs.declared.certificate.Cause.TheVariants.{Split, Cut, Bound}
use Rattle.certificates.specs.declared.certificate.Multiple.{Multiple}

-- a list, by a code of its elements
abbrev pub list_code : {A : Type 0} → (A → Gv) → List A → Gv
list_code c [] = gnil
list_code c (x ∷ xs) = gcons (c x) (list_code c xs)

abbrev pub list_back : {A : Type 0} → (Gv → A) → Gv → List A
list_back b gnil = []
list_back b (gnum n) = []
list_back b (gcons x xs) = b x ∷ list_back b xs

pub list_back-code : {A : Type 0} (c : A → Gv) (b : Gv → A) → ((x : A) → b (c x) ≡ x) → (xs : List A) → list_back b (list_code c xs) ≡ xs
list_back-code c b e [] = refl
list_back-code c b e (x ∷ xs) = λ i. e x i ∷ list_back-code c b e xs i

abbrev pub step_code : StepData → Gv
step_code (PartsStep i ps) = tree 0 (gnum i) (list_code formula_code ps) gnil
step_code (AxiomStep name p) = tree 1 (axiom_code name) (formula_code p) gnil
step_code (InstanceStep i t p) = tree 2 (gnum i) (term_code t) (formula_code p)
step_code (NameStep i v p) = tree 3 (gnum i) (gnum v) (formula_code p)
step_code (RewriteStep i j x c p) = tree 4 (gcons (gnum i) (gcons (gnum j) (gnum x))) (formula_code c) (formula_code p)

abbrev pub step_back : Gv → StepData
step_back (gcons (gnum n) (gcons a (gcons b c))) =
    pick n (PartsStep 0 []) (PartsStep (num a) (list_back formula_back b) ∷ AxiomStep (axiom_back a) (formula_back b) ∷ InstanceStep (num a) (term_back b) (formula_back c) ∷ NameStep (num a) (num b) (formula_back c) ∷ RewriteStep (num (head a)) (num (head (tail a))) (num (tail (tail a))) (formula_back b) (formula_back c) ∷ [])
step_back _ = PartsStep 0 []

pub step_back-code : (s : StepData) → step_back (step_code s) ≡ s
step_back-code (PartsStep i ps) = ap (PartsStep i) (list_back-code formula_code formula_back formula_back-code ps)
step_back-code (AxiomStep name p) = λ i. AxiomStep (axiom_back-code name i) (formula_back-code p i)
step_back-code (InstanceStep k t p) = λ i. InstanceStep k (term_back-code t i) (formula_back-code p i)
step_back-code (NameStep k v p) = ap (NameStep k v) (formula_back-code p)
step_back-code (RewriteStep k l x c p) = λ i. RewriteStep k l x (formula_back-code c i) (formula_back-code p i)

abbrev pub coded_step : Coded StepData
coded_step = code_by Gv itself step_code step_back step_back-code

abbrev multiple_code : Multiple → Gv
multiple_code m = gcons (gnum m.entry) (whole_code m.multiplier)

abbrev pub multiple_back : Gv → Multiple
multiple_back g = record { entry = num (head g); multiplier = whole_back (tail g) }

pub multiple_back-code : (m : Multiple) → multiple_back (multiple_code m) ≡ m
multiple_back-code m = λ i. record { entry = m.entry; multiplier = whole_back-code m.multiplier i }

abbrev close_code : CloseData → Gv
close_code (LinearClose ms) = tree 0 (list_code multiple_code ms) gnil gnil
close_code (ClashClose i j) = tree 1 (gnum i) (gnum j) gnil
close_code (FalseClose i) = tree 2 (gnum i) gnil gnil

abbrev pub close_back : Gv → CloseData
close_back (gcons (gnum n) (gcons a (gcons b c))) =
    pick n (FalseClose 0) (LinearClose (list_back multiple_back a) ∷ ClashClose (num a) (num b) ∷ FalseClose (num a) ∷ [])
close_back _ = FalseClose 0

pub close_back-code : (c : CloseData) → close_back (close_code c) ≡ c
close_back-code (LinearClose ms) = ap LinearClose (list_back-code multiple_code multiple_back multiple_back-code ms)
close_back-code (ClashClose i j) = refl
close_back-code (FalseClose i) = refl

abbrev cause_code : Cause → Gv
cause_code (Split i) = gcons (gnum 0) (gnum i)
cause_code Cut = gcons (gnum 1) gnil
cause_code (Bound i) = gcons (gnum 2) (gnum i)

abbrev pub cause_back : Gv → Cause
cause_back g = pick (num (head g)) Cut (Split (num (tail g)) ∷ Cut ∷ Bound (num (tail g)) ∷ [])

pub cause_back-code : (c : Cause) → cause_back (cause_code c) ≡ c
cause_back-code (Split i) = refl
cause_back-code Cut = refl
cause_back-code (Bound i) = refl

abbrev move_code : MoveData → Gv
move_code (StraightMove s) = tree 0 (step_code s) gnil gnil
move_code (ForkedMove c ps) = tree 1 (cause_code c) (list_code formula_code ps) gnil
move_code (ClosedMove c) = tree 2 (close_code c) gnil gnil

abbrev pub move_back : Gv → MoveData
move_back (gcons (gnum n) (gcons a (gcons b c))) =
    pick n (ClosedMove (FalseClose 0)) (StraightMove (step_back a) ∷ ForkedMove (cause_back a) (list_back formula_back b) ∷ ClosedMove (close_back a) ∷ [])
move_back _ = ClosedMove (FalseClose 0)

pub move_back-code : (m : MoveData) → move_back (move_code m) ≡ m
move_back-code (StraightMove s) = ap StraightMove (step_back-code s)
move_back-code (ForkedMove c ps) = λ i. ForkedMove (cause_back-code c i) (list_back-code formula_code formula_back formula_back-code ps i)
move_back-code (ClosedMove c) = ap ClosedMove (close_back-code c)

abbrev pub coded_move : Coded MoveData
coded_move = code_by Gv itself move_code move_back move_back-code

abbrev cert_code : List MoveData → Gv
cert_code = list_code move_code

abbrev pub cert_back : Gv → List MoveData
cert_back = list_back move_back

abbrev pub coded_cert : Coded (List MoveData)
coded_cert = code_by Gv itself cert_code cert_back (list_back-code move_code move_back move_back-code)
