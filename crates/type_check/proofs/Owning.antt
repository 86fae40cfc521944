-- The clauses of an owner, one after another.
use Rattle.std.proofs.Common.{◌≡◌, ℕ, zero, suc, ◌<◌, ◌⊎◌, inl, inr, Bool, List, [], ◌∷◌, ◌++◌, length, take, Option, Some, None, refl, sym, ◌∙◌, ap, subst, arith}
use Rattle.std.specs.Prelude.{slice_get}
use Rattle.std.proofs.Math.Seq.{take-append_seam}
use Rattle.std.proofs.lemmas.Bool.{cases_lt}
use Rattle.std.proofs.lemmas.List.{length-append, take-append-le}
use Rattle.std.proofs.lemmas.Option.{slice_get_within, slice_get-get_or}
use Rattle.base.specs.TypeData.{TypeData, TypesData}
use Rattle.base.specs.declared.span.Span.{Span}
use Rattle.program.specs.declared.clause.Clause.{Clause}
use Rattle.program.specs.declared.clause.ClauseForm.{ClauseForm}
use Rattle.program.specs.declared.clause.ClauseForm.TheVariants.{Let}
use Rattle.program.specs.declared.program.Program.{Program}
use Rattle.typing_rules.specs.Answers.{System, HasType}
use Rattle.typing_rules.specs.Clauses as C
use Rattle.type_constraints.specs.SpecSettings.{let_of}
use Rattle.type_constraints.specs.declared.spec.setting.LetType.{LetType}
use Rattle.type_check.specs.Judged.{ClauseSays, ClauseKnown, FirstSay, OwnerSays, stated}
use Rattle.type_check.specs.Lets.{LetSays, LetsSay}
use Rattle.type_check.specs.declared.clauses.judged.JudgedClause.{JudgedClause}
use Rattle.type_check.proofs.Unique.{one_type}

-- ---- lists with one more item

pub get_pushed : {A : Type 0} (xs : List A) (x : A) (k : ℕ) → k < length xs → slice_get (xs ++ x ∷ []) k ≡ slice_get xs k
get_pushed (a ∷ xs) x zero lt = refl
get_pushed (a ∷ xs) x (suc k) lt = get_pushed xs x k (omega (arith, lt))
get_pushed [] x k lt = absurd (omega (arith, lt))

pub get_last : {A : Type 0} (xs : List A) (x : A) → slice_get (xs ++ x ∷ []) (length xs) ≡ Some x
get_last [] x = refl
get_last (a ∷ xs) x = get_last xs x

pub length_pushed : {A : Type 0} (xs : List A) (x : A) (n : ℕ) → length xs ≡ n → length (xs ++ x ∷ []) ≡ suc n
length_pushed xs x n e = (let a = length-append xs (x ∷ []) in omega (arith, a, e))

pub some_inside : {A : Type 0} (x y : A) → Some x ≡ Some y → x ≡ y
some_inside x y e = cc

some_at : {A : Type 0} (xs : List A) (k : ℕ) → k < length xs → (x : A) × (slice_get xs k ≡ Some x)
some_at (x ∷ xs) zero lt = (x, refl)
some_at (x ∷ xs) (suc k) lt = some_at xs k (omega (arith, lt))
some_at [] k lt = absurd (omega (arith, lt))

pub last_is : (k n : ℕ) → k < suc n → (k < n) ⊎ (k ≡ n)
last_is k n lt = elim (cases_lt k n) [
  | inl below ↦ inl below
  | inr other ↦ inr (omega (arith, lt, other))
]

-- ---- one more clause

module _ (program : Program) (names : List (Option C.LetType) → C.Names) (block : C.Block) (types : TypesData) (clauses : List Clause) where
  abbrev system : List (Option C.LetType) → Clause → System
  system before = C.clause_system program (names before) block types

  pub none_said : FirstSay program names block types clauses [] [] 0
  none_said = record {
    lets_known = refl;
    all_known = refl;
    lets_say = λ k clause of lt e f. absurd (omega (arith, lt));
    each = λ k clause one span lt e f. absurd (omega (arith, lt));
  }

  same_clause : (n : ℕ) (clause other : Clause) → slice_get clauses n ≡ Some clause → slice_get clauses n ≡ Some other → clause ≡ other
  same_clause n clause other e f = some_inside clause other (sym e ∙ f)

  lets_more : (lets : List (Option C.LetType)) (n : ℕ) (clause : Clause) (of : Option C.LetType) → length lets ≡ n → slice_get clauses n ≡ Some clause
      → LetsSay system clauses lets n → LetSays (system lets clause) clause.form of → LetsSay system clauses (lets ++ of ∷ []) (suc n)
  lets_more lets n clause of size at said one = λ k other o lt e f. elim (last_is k n lt) [
    | inl below ↦ subst (λ (before : List (Option C.LetType)). LetSays (system before other) other.form o) (sym (take-append-le k lets (of ∷ []) (omega (arith, below, size))))
        (said k other o below e (sym (get_pushed lets of k (omega (arith, below, size))) ∙ f))
    | inr here ↦
        let same : clause ≡ other = same_clause n clause other at (ap (λ (m : ℕ). slice_get clauses m) (sym here) ∙ e) in
        let stands : of ≡ o = some_inside of o (sym (get_last lets of) ∙ ap (λ (m : ℕ). slice_get (lets ++ of ∷ []) m) (size ∙ sym here) ∙ f) in
        let before : take k (lets ++ of ∷ []) ≡ lets = ap (λ (m : ℕ). take m (lets ++ of ∷ [])) (here ∙ sym size) ∙ take-append_seam lets (of ∷ []) in
        subst (λ (b : List (Option C.LetType)). LetSays (system b other) other.form o) (sym before)
        (subst (λ (p : Option C.LetType). LetSays (system lets other) other.form p) stands (subst (λ (d : Clause). LetSays (system lets d) d.form of) same one))
  ]

  each_more : (lets : List (Option C.LetType)) (judged : List JudgedClause) (n : ℕ) (clause : Clause) (of : Option C.LetType) (one : JudgedClause) → length lets ≡ n → length judged ≡ n
      → slice_get clauses n ≡ Some clause
      → ((k : ℕ) (other : Clause) (j : JudgedClause) (span : Span) → k < n → slice_get clauses k ≡ Some other → slice_get judged k ≡ Some j → ClauseSays program (stated (names (take k lets)) block types other span) j × (j.span ≡ other.block))
      → ((span : Span) → ClauseSays program (stated (names lets) block types clause span) one) → one.span ≡ clause.block
      → (k : ℕ) (other : Clause) (j : JudgedClause) (span : Span) → k < suc n → slice_get clauses k ≡ Some other → slice_get (judged ++ one ∷ []) k ≡ Some j
      → ClauseSays program (stated (names (take k (lets ++ of ∷ []))) block types other span) j × (j.span ≡ other.block)
  each_more lets judged n clause of one size known at said says placed k other j span lt e f = elim (last_is k n lt) [
    | inl below ↦ subst (λ (before : List (Option C.LetType)). ClauseSays program (stated (names before) block types other span) j × (j.span ≡ other.block))
        (sym (take-append-le k lets (of ∷ []) (omega (arith, below, size))))
        (said k other j span below e (sym (get_pushed judged one k (omega (arith, below, known))) ∙ f))
    | inr here ↦
        let same : clause ≡ other = same_clause n clause other at (ap (λ (m : ℕ). slice_get clauses m) (sym here) ∙ e) in
        let stands : one ≡ j = some_inside one j (sym (get_last judged one) ∙ ap (λ (m : ℕ). slice_get (judged ++ one ∷ []) m) (known ∙ sym here) ∙ f) in
        let before : take k (lets ++ of ∷ []) ≡ lets = ap (λ (m : ℕ). take m (lets ++ of ∷ [])) (here ∙ sym size) ∙ take-append_seam lets (of ∷ []) in
        subst (λ (b : List (Option C.LetType)). ClauseSays program (stated (names b) block types other span) j × (j.span ≡ other.block)) (sym before)
        (subst (λ (d : Clause). ClauseSays program (stated (names lets) block types d span) j × (j.span ≡ d.block)) same
        (subst (λ (i : JudgedClause). ClauseSays program (stated (names lets) block types clause span) i × (i.span ≡ clause.block)) stands (says span, placed)))
  ]

  pub first_more : (lets : List (Option C.LetType)) (judged : List JudgedClause) (n : ℕ) (clause : Clause) (of : Option LetType) (one : JudgedClause)
      → FirstSay program names block types clauses lets judged n → slice_get clauses n ≡ Some clause → ClauseKnown program (names lets) block types clause one of
      → FirstSay program names block types clauses (lets ++ let_of of ∷ []) (judged ++ one ∷ []) (suc n)
  first_more lets judged n clause of one first at known = record {
    lets_known = length_pushed lets (let_of of) n first.lets_known;
    all_known = length_pushed judged one n first.all_known;
    lets_say = lets_more lets n clause (let_of of) first.lets_known at first.lets_say known.of_let;
    each = each_more lets judged n clause (let_of of) one first.lets_known first.all_known at first.each known.says known.span_is;
  }

  -- ---- all of them

  let_inside : (p q : Bool) (v w : ℕ) → Let p v ≡ Let q w → (p ≡ q) × (v ≡ w)
  let_inside p q v w e = (cc, cc)

  is_let : (s : System) (form : ClauseForm) (o : Option C.LetType) (is_post : Bool) (value : ℕ) (of : TypeData) → form ≡ Let is_post value → HasType s value of → LetSays s form o → o ≡ Some (is_post, of)
  is_let s form None is_post value of e h says = absurd (says is_post value e of h)
  is_let s form (Some l) is_post value of e h says =
      let inside = let_inside l.0 is_post says.0 value (sym says.1 ∙ e) in
      let same : l.1 ≡ of = one_type s value l.1 of (subst (λ (v : ℕ). HasType s v l.1) inside.1 says.2) h in
      λ i. Some (inside.0 i, same i)

  clause_at : (k : ℕ) → k < length clauses → (clause : Clause) × (slice_get clauses k ≡ Some clause)
  clause_at k lt = some_at clauses k lt

  are_lets : (lets : List (Option C.LetType)) → length lets ≡ length clauses → LetsSay system clauses lets (length clauses) → C.AreLets system clauses lets
  are_lets lets size said = record {
    same_length = size;
    known = λ k is_post of e.
        (let lt : k < length clauses = (let within = slice_get_within lets k _ e in omega (arith, within, size)) in
        let at = clause_at k lt in
        let w = said k at.0 (Some (is_post, of)) lt at.1 e in
        (at.0, w.0, at.1, w.1, w.2));
    typed = λ k clause is_post value of e form h.
        (let lt : k < length clauses = slice_get_within clauses k clause e in
        let o = slice_get-get_or lets k None (omega (arith, lt, size)) in
        o ∙ ap (λ (x : Option C.LetType). Some x) (is_let (system (take k lets) clause) clause.form _ is_post value of form h (said k clause _ lt e o)));
  }

  pub all_said : (lets : List (Option C.LetType)) (judged : List JudgedClause) (n : ℕ) → length clauses ≡ n → FirstSay program names block types clauses lets judged n → OwnerSays program names block types clauses judged
  all_said lets judged n size first = record {
    lets = lets;
    are_lets = are_lets lets (first.lets_known ∙ sym size) (subst (λ (m : ℕ). LetsSay system clauses lets m) (sym size) first.lets_say);
    same_length = first.all_known ∙ sym size;
    each = λ k clause one span e f. first.each k clause one span (let within = slice_get_within clauses k clause e in omega (arith, within, size)) e f;
  }

-- the same for equal lists
pub said_again : (program : Program) (names : List (Option C.LetType) → C.Names) (block : C.Block) (types : TypesData) (clauses : List Clause) (lets lets2 : List (Option C.LetType)) (judged judged2 : List JudgedClause)
    (n m : ℕ) → lets ≡ lets2 → judged ≡ judged2 → n ≡ m → FirstSay program names block types clauses lets judged n → FirstSay program names block types clauses lets2 judged2 m
said_again program names block types clauses lets lets2 judged judged2 n m e f g first =
    subst (λ (k : ℕ). FirstSay program names block types clauses lets2 judged2 k) g
    (subst (λ (js : List JudgedClause). FirstSay program names block types clauses lets2 js n) f
    (subst (λ (ls : List (Option C.LetType)). FirstSay program names block types clauses ls judged n) e first))
