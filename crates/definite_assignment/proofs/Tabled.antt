-- Tables that gain states.
use Rattle.std.proofs.Common.{◌≡◌, ℕ, ◌+◌, ◌<◌, ◌≤◌, Bool, true, false, ◌&&◌, ◌||◌, eqb, List, [], ◌∷◌, ◌++◌, length, take, get_or, inl, inr, Option, refl, sym, ap, subst, ◌∙◌, arith, length-append, append-nil, drop}
use Rattle.std.proofs.lemmas.Bool.{cases_lt}
use Rattle.std.proofs.Math.Seq.{take-length, drop-length}
use Rattle.std.proofs.lemmas.List.{get_or_append_left, get_or_past, get_or_push, take_more}
use Rattle.base.specs.TypeData.{TypeData}
use Rattle.program.specs.declared.code.CodeUnary.{CodeUnary}
use Rattle.program.specs.declared.code.CodeUnary.TheVariants.{Not, Dereference, Borrow, BorrowMutable, Field, Cast, Return, Abort, Loop, Discard, Declare}
use Rattle.program.specs.declared.code.CodeBinary.{CodeBinary}
use Rattle.program.specs.declared.code.CodeBinary.TheVariants.{Operator, Assign, If, While, Assert, Let}
use Rattle.program.specs.declared.code.CodeMany.{CodeMany}
use Rattle.program.specs.declared.code.CodeMany.TheVariants.{Call, Vector, Pack, Unpack, Tuple, TuplePattern, Block}
use Rattle.program.specs.declared.code.NamedFields.{NamedFields}
use Rattle.typing_rules.specs.Pieces.{Piece, piece_at}
use Rattle.definite_assignment.specs.declared.outcome.Ends.{Ends}
use Rattle.definite_assignment.specs.Views.{is_in}
use Rattle.definite_assignment.proofs.SetLaws.{none_at}
use Rattle.definite_assignment.specs.Entries.{Entry, behind, in_order, unary_entries, binary_entries, many_entries, given}
use Rattle.definite_assignment.specs.Tables.{nowhere, begun, Gains, IsUnreached}

or_false : (b : Bool) → (b || false) ≡ b
or_false true = refl
or_false false = refl

or_assoc : (x y z : Bool) → ((x || y) || z) ≡ (x || (y || z))
or_assoc true y z = refl
or_assoc false y z = refl

given_append : (xs ys : List Entry) (p : ℕ) (state : Bool) → given (xs ++ ys) p state ≡ (given xs p state || given ys p state)
given_append [] ys p state = refl
given_append (e ∷ xs) ys p state = ap (λ x. (eqb e.part p && e.states state) || x) (given_append xs ys p state) ∙ sym (or_assoc (eqb e.part p && e.states state) (given xs p state) (given ys p state))

pub gains_none : (i : ℕ) (table : List Ends) → Gains i [] table table
gains_none i table = record { same_length = refl; each = λ n state. sym (or_false (begun table i n state)) }

pub gains_both : (i : ℕ) (xs ys : List Entry) (old middle new : List Ends) → Gains i xs old middle → Gains i ys middle new → Gains i (xs ++ ys) old new
gains_both i xs ys old middle new p q = record {
  same_length = q.same_length ∙ p.same_length;
  each = λ n state.
      q.each n state ∙ ap (λ x. x || given ys n state) (p.each n state) ∙ or_assoc (begun old i n state) (given xs n state) (given ys n state)
      ∙ ap (λ x. begun old i n state || x) (sym (given_append xs ys n state));
}

-- ---- parts in order

-- the states after these parts
abbrev pub after : ℕ → List Piece → List ℕ → (Bool → Bool) → Bool → Bool
after l pieces [] states = states
after l pieces (p ∷ ps) states = after l pieces ps (behind l (piece_at pieces p).flow states)

entry : ℕ → (Bool → Bool) → Entry
entry p states = record { part = p; states = states }

order_more : (l : ℕ) (pieces : List Piece) (xs : List ℕ) (x : ℕ) (states : Bool → Bool) → in_order l pieces (xs ++ x ∷ []) states ≡ in_order l pieces xs states ++ record { part = x; states = after l pieces xs states } ∷ []
order_more l pieces [] x states = refl
order_more l pieces (p ∷ ps) x states = ap (λ es. record { part = p; states = states } ∷ es) (order_more l pieces ps x (behind l (piece_at pieces p).flow states))

after_more : (l : ℕ) (pieces : List Piece) (xs : List ℕ) (x : ℕ) (states : Bool → Bool) → after l pieces (xs ++ x ∷ []) states ≡ behind l (piece_at pieces x).flow (after l pieces xs states)
after_more l pieces [] x states = refl
after_more l pieces (p ∷ ps) x states = after_more l pieces ps x (behind l (piece_at pieces p).flow states)

-- the invariant for a local after so many parts
pub record Ordered (i l : ℕ) (pieces : List Piece) (parts : List ℕ) (states : Bool → Bool) (now : Ends) (old new : List Ends) : Type 0 where
  pub gains : Gains i (in_order l pieces parts states) old new
  pub now_is : (state : Bool) → is_in now state i ≡ after l pieces parts states state

pub ordered_none : (i l : ℕ) (pieces : List Piece) (now : Ends) (old : List Ends) → Ordered i l pieces [] (λ s. is_in now s i) now old old
ordered_none i l pieces now old = record { gains = gains_none i old; now_is = λ state. refl }

pub ordered_more : (i l : ℕ) (pieces : List Piece) (parts : List ℕ) (k : ℕ) (states : Bool → Bool) (now next : Ends) (old middle new : List Ends)
    → k < length parts
    → Ordered i l pieces (take k parts) states now old middle
    → Gains i (record { part = get_or parts k 0; states = λ s. is_in now s i } ∷ []) middle new
    → ((state : Bool) → is_in next state i ≡ behind l (piece_at pieces (get_or parts k 0)).flow (λ s. is_in now s i) state)
    → Ordered i l pieces (take (k + 1) parts) states next old new
ordered_more i l pieces parts k states now next old middle new h p g b =
    let x = get_or parts k 0 in
    let more : take (k + 1) parts ≡ take k parts ++ x ∷ [] = take_more parts k 0 h in
    let same : (λ s. is_in now s i) ≡ after l pieces (take k parts) states = λ j s. p.now_is s j in
    let one : Gains i (record { part = x; states = after l pieces (take k parts) states } ∷ []) middle new = subst (λ (f : Bool → Bool). Gains i (record { part = x; states = f } ∷ []) middle new) same g in
    let all : Gains i (in_order l pieces (take k parts) states ++ record { part = x; states = after l pieces (take k parts) states } ∷ []) old new =
    gains_both i (in_order l pieces (take k parts) states) (record { part = x; states = after l pieces (take k parts) states } ∷ []) old middle new p.gains one in
    record {
      gains = subst (λ es. Gains i es old new) (sym (ap (λ xs. in_order l pieces xs states) more ∙ order_more l pieces (take k parts) x states)) all;
      now_is = λ state.
          b state ∙ ap (λ (f : Bool → Bool). behind l (piece_at pieces x).flow f state) same
          ∙ sym (ap (λ f. f state) (ap (λ xs. after l pieces xs states) more ∙ after_more l pieces (take k parts) x states));
    }

-- ---- tables in which no node is entered

nowhere_none : (i : ℕ) (state : Bool) → is_in nowhere state i ≡ false
nowhere_none i true = none_at 0 i refl
nowhere_none i false = none_at 0 i refl

pub unreached_none : IsUnreached 0 []
unreached_none = record { same_length = refl; each = λ i n state. nowhere_none i state }

pub unreached_more : (count : ℕ) (table : List Ends) (x : Ends) → IsUnreached count table → ((i : ℕ) (state : Bool) → is_in x state i ≡ false) → IsUnreached (count + 1) (table ++ x ∷ [])
unreached_more count table x u none = record {
  same_length = length-append table (x ∷ []) ∙ omega (arith, u.same_length);
  each = λ i n state.
      elim (cases_lt n (length table)) [
        | inl before ↦ ap (λ e. is_in e state i) (get_or_append_left table (x ∷ []) nowhere n before) ∙ u.each i n state
        | inr not_before ↦ elim (cases_lt (length table) n) [
          | inl past ↦ ap (λ e. is_in e state i) (get_or_past (table ++ x ∷ []) n nowhere (omega (arith, length-append table (x ∷ [])))) ∙ nowhere_none i state
          | inr not_past ↦ ap (λ e. is_in e state i) (get_or_push table x nowhere n (omega arith)) ∙ none i state
        ]
      ];
}

pub begun_past : (table : List Ends) (i n : ℕ) (state : Bool) → length table ≤ n → begun table i n state ≡ false
begun_past table i n state h = ap (λ e. is_in e state i) (get_or_past table n nowhere h) ∙ nowhere_none i state

-- ---- forms whose parts are entered one after another

pub unary_default : (l : ℕ) (pieces : List Piece) (form : CodeUnary) (a : ℕ) (states : Bool → Bool) → (form ≡ Loop → ⊥) → ((t : Option TypeData) → form ≡ Declare t → ⊥) → in_order l pieces (a ∷ []) states ≡ unary_entries l pieces form a states
unary_default l pieces (Declare annotation) a states h k = absurd (k annotation refl)
unary_default l pieces Loop a states h k = absurd (h refl)
unary_default l pieces (Field name) a states h k = refl
unary_default l pieces Borrow a states h k = refl
unary_default l pieces BorrowMutable a states h k = refl
unary_default l pieces Return a states h k = refl
unary_default l pieces Abort a states h k = refl
unary_default l pieces Not a states h k = refl
unary_default l pieces Dereference a states h k = refl
unary_default l pieces (Cast of) a states h k = refl
unary_default l pieces Discard a states h k = refl

pub binary_default : (l : ℕ) (pieces : List Piece) (form : CodeBinary) (a b : ℕ) (states : Bool → Bool) → (form ≡ Assign → ⊥) → (form ≡ While → ⊥) → ((t : Option TypeData) → form ≡ Let t → ⊥)
    → in_order l pieces (a ∷ b ∷ []) states ≡ binary_entries l pieces form a b states
binary_default l pieces (Operator o) a b states f g h = refl
binary_default l pieces Assign a b states f g h = absurd (f refl)
binary_default l pieces If a b states f g h = refl
binary_default l pieces While a b states f g h = absurd (g refl)
binary_default l pieces Assert a b states f g h = refl
binary_default l pieces (Let annotation) a b states f g h = absurd (h annotation refl)

pub many_default : (l : ℕ) (pieces : List Piece) (form : CodeMany) (parts : List ℕ) (states : Bool → Bool) → ((fields : NamedFields) → form ≡ Unpack fields → ⊥) → (form ≡ TuplePattern → ⊥)
    → in_order l pieces parts states ≡ many_entries l pieces form parts states
many_default l pieces (Block has_value) parts states f g = refl
many_default l pieces (Unpack fields) parts states f g = absurd (f fields refl)
many_default l pieces TuplePattern parts states f g = absurd (g refl)
many_default l pieces (Call call) parts states f g = refl
many_default l pieces (Vector types) parts states f g = refl
many_default l pieces (Pack fields) parts states f g = refl
many_default l pieces Tuple parts states f g = refl

-- ---- a table that is changed as a slice

pub written_back : (n : ℕ) (old new : List Ends) → n ≡ length old → length new ≡ length old → take n (new ++ drop (length new) old) ≡ new
written_back n old new e len =
    ap (λ (rest : List Ends). take n (new ++ rest)) (ap (λ (k : ℕ). drop k old) len ∙ drop-length old)
    ∙ ap (take n) (append-nil new) ∙ ap (λ (k : ℕ). take k new) (e ∙ sym len) ∙ take-length new
