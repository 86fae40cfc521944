-- The judgments of the clauses of declarations, one owner after another.
use Rattle.std.proofs.Common.{◌≡◌, ℕ, ◌+◌, ◌<◌, ◌≤◌, ◌⊎◌, inl, inr, Bool, true, false, not, ◌||◌, List, [], ◌∷◌, ◌++◌, length, map, take, get_or, Option, Some, None, refl, sym, ◌∙◌, ap, subst, arith, add-one}
use Rattle.std.specs.Prelude.{◌↔◌, IsTrue, Contains, slice_get}
use Rattle.std.specs.Option.{option_map}
use Rattle.std.proofs.Math.Seq.{take-suc}
use Rattle.std.proofs.lemmas.List.{ext_get_or, take_all, length-append, length-map}
use Rattle.std.proofs.lemmas.Bool.{cases_lt}
use Rattle.std.proofs.lemmas.List.Elements.{Contains-append_left, Contains-append_right, Contains-append_cases, Contains-push, Contains-push_cases}
use Rattle.std.proofs.lemmas.Option.{slice_get_within, slice_get-get_or, get_or_from_slice_get, slice_get-map}
use Rattle.base.specs.TypeData.{TypeData, TypesData, TupleType, NoTypes}
use Rattle.base.specs.declared.span.Span.{Span}
use Rattle.program.specs.declared.clause.Clause.{Clause}
use Rattle.program.specs.declared.clause.LoopClause.{LoopClause}
use Rattle.base.specs.declared.types.FunctionId.{FunctionId}
use Rattle.program.specs.declared.declaration.Function.{Function}
use Rattle.program.specs.declared.declaration.SpecFunction.{SpecFunction}
use Rattle.program.specs.declared.program.Program.{Program}
use Rattle.program.specs.Order.{IsFirstOrNone}
use Rattle.program.proofs.Firsts.{first_renamed}
use Rattle.typing_rules.specs.Answers.{System, IsUntypable}
use Rattle.typing_rules.specs.Clauses as C
use Rattle.type_check.specs.Reached.{IsRoot}
use Rattle.type_check.specs.Reached as R
use Rattle.type_check.specs.declared.clauses.judged.ClauseRule.{ClauseRule}
use Rattle.type_check.specs.SpecFaults.{FunctionBreaksAt, SpecFunctionBreaks}
use Rattle.type_check.proofs.SpecFirsts.{Among}
use Rattle.typing_rules.specs.Faults.{Stated, IsOwned, IsOfLoop}
use Rattle.type_check.specs.Judged.{ClauseSays, OwnerSays, stated}
use Rattle.type_check.specs.declared.clauses.judged.JudgedClause.{JudgedClause}
use Rattle.type_check.proofs.Unique.{one_lets, one_type}
use Rattle.type_check.proofs.KeyLaws.{last_there}
use Rattle.type_check.proofs.SchemasLists.{at_contained, contained_at, get_before, some_at, some_inside}
use Rattle.type_check.specs.Roots.{IsOfFunction, IsOfModule, IsOfStruct, LocalsSay, LoopsSay, OfSome, TellsOf}

-- clauses with equal components are equal
same_stated : (c : Stated) (names : C.Names) (block : C.Block) (types : TypesData) → c.names ≡ names → c.block ≡ block → c.types ≡ types → c ≡ stated names block types c.clause c.span
same_stated c names block types e f g = λ i. record { names = e i; block = f i; types = g i; clause = c.clause; span = c.span }

none_contained : {A : Type 0} (x : A) → Contains [] x → ⊥
none_contained x c = let b = c.1 in omega arith

module _ (program : Program) where
  pub tells_none : (Are : Stated → Type 0) → ((c : Stated) → Are c → ⊥) → TellsOf program Are []
  tells_none Are none = record { sound = λ one h. absurd (none_contained one h); all = λ c h. absurd (none c h) }

  pub tells_both : (Are Other : Stated → Type 0) (xs ys : List JudgedClause) → TellsOf program Are xs → TellsOf program Other ys → TellsOf program (λ c. Are c ⊎ Other c) (xs ++ ys)
  tells_both Are Other xs ys a b = record {
    sound = λ one h. elim (Contains-append_cases xs ys one h) [
      | inl left ↦ (let w = a.sound one left in (w.0, (inl w.1.0, w.1.1, w.1.2)))
      | inr right ↦ (let w = b.sound one right in (w.0, (inr w.1.0, w.1.1, w.1.2)))
    ];
    all = λ c h. elim h [
      | inl x ↦ (let w = a.all c x in (w.0, (Contains-append_left xs ys w.0 w.1.0, w.1.1, w.1.2)))
      | inr y ↦ (let w = b.all c y in (w.0, (Contains-append_right xs ys w.0 w.1.0, w.1.1, w.1.2)))
    ];
  }

  pub tells_same : (Are Other : Stated → Type 0) (xs : List JudgedClause) → ((c : Stated) → Are c → Other c) → ((c : Stated) → Other c → Are c) → TellsOf program Are xs → TellsOf program Other xs
  tells_same Are Other xs there back a = record {
    sound = λ one h. (let w = a.sound one h in (w.0, (there w.0 w.1.0, w.1.1, w.1.2)));
    all = λ c h. a.all c (back c h);
  }

  -- ---- the clauses of an owner

  pub owner_tells : (block : C.Block) (names : List (Option C.LetType) → C.Names) (clauses : List Clause) (judged : List JudgedClause) → OwnerSays program names block NoTypes clauses judged
      → TellsOf program (IsOwned program block names clauses) judged
  owner_tells block names clauses judged owner = record {
    sound = λ one h.
        let at = contained_at judged one h in
        let lt : at.0 < length clauses = (let within = slice_get_within judged at.0 one at.1 in let size = owner.same_length in omega (arith, within, size)) in
        let clause = some_at clauses at.0 lt in
        let says = owner.each at.0 clause.0 one clause.0.block clause.1 at.1 in (
          stated (names (take at.0 owner.lets)) block NoTypes clause.0 clause.0.block,
          (
            record {
              lets = owner.lets;
              are_lets = owner.are_lets;
              number = at.0;
              one = clause.1;
              names_are = refl;
              block_is = refl;
              types_are = refl;
              span_is = refl;
            },
            sym says.1,
            says.0,
          ),
        );
    all = λ c own.
        let lt : own.number < length judged = (let within = slice_get_within clauses own.number c.clause own.one in let size = owner.same_length in omega (arith, within, size)) in
        let one = some_at judged own.number lt in
        let lets = one_lets (λ before. C.clause_system program (names before) block NoTypes) clauses own.lets owner.lets own.are_lets owner.are_lets in
        let named : c.names ≡ names (take own.number owner.lets) = own.names_are ∙ ap (λ (ls : List (Option C.LetType)). names (take own.number ls)) lets in
        let says = owner.each own.number c.clause one.0 c.span own.one one.1 in (
          one.0,
          (
            at_contained judged own.number one.0 one.1,
            own.span_is ∙ sym says.1,
            subst (λ (d : Stated). ClauseSays program d one.0) (sym (same_stated c _ block NoTypes named own.block_is own.types_are)) says.0,
          ),
        );
  }

  -- ---- the clauses of loops

  one_locals : (f : Function) (types : List TypeData) → LocalsSay program f (Some types) → (c : Stated) (of : IsOfLoop program f c) → of.locals ≡ types
  one_locals f types says c of =
      let d : TypeData = TupleType NoTypes in
      let own = of.same_length in
      let other = says.0 in
      ext_get_or d of.locals types (own ∙ sym other) (λ l lt.
      one_type _ _ _ _ (of.each l (get_or of.locals l d) (slice_get-get_or of.locals l d lt)) (says.1 l (get_or types l d) (slice_get-get_or types l d (omega (arith, lt, own, other)))))

  -- a clause of a loop, by its number
  clause_number : (f : Function) (clause : Clause) → Contains (map (λ l. l.clause) f.loop_clauses) clause → (k : ℕ) × ((l : LoopClause) × ((slice_get f.loop_clauses k ≡ Some l) × (l.clause ≡ clause)))
  clause_number f clause h =
      let at = contained_at (map (λ l. l.clause) f.loop_clauses) clause h in
      let within = slice_get_within (map (λ (l : LoopClause). l.clause) f.loop_clauses) at.0 clause at.1 in
      let size = length-map f.loop_clauses (λ (l : LoopClause). l.clause) in
      let l = some_at f.loop_clauses at.0 (omega (arith, within, size)) in
      (at.0, (l.0, (l.1, some_inside l.0.clause clause (sym (slice_get-map (λ (x : LoopClause). x.clause) f.loop_clauses at.0 ∙ ap (option_map (λ (x : LoopClause). x.clause)) l.1) ∙ at.1))))

  number_clause : (f : Function) (k : ℕ) (l : LoopClause) → slice_get f.loop_clauses k ≡ Some l → Contains (map (λ x. x.clause) f.loop_clauses) l.clause
  number_clause f k l e = at_contained (map (λ x. x.clause) f.loop_clauses) k l.clause (slice_get-map (λ (x : LoopClause). x.clause) f.loop_clauses k ∙ ap (option_map (λ (x : LoopClause). x.clause)) e)

  pub loops_tell : (f : Function) (types : List TypeData) (judged : List JudgedClause) → LocalsSay program f (Some types) → LoopsSay program f types judged → TellsOf program (IsOfLoop program f) judged
  loops_tell f types judged locals loops = record {
    sound = λ one h.
        let at = contained_at judged one h in
        let lt : at.0 < length f.loop_clauses = (let within = slice_get_within judged at.0 one at.1 in let size = loops.same_length in omega (arith, within, size)) in
        let l = some_at f.loop_clauses at.0 lt in
        let says = loops.each at.0 l.0 one l.1 at.1 in (
          stated (C.loop_names f.result types) C.LoopBlock NoTypes l.0.clause l.0.clause.block,
          (
            record {
              locals = types;
              same_length = locals.0;
              each = locals.1;
              names_are = refl;
              block_is = refl;
              types_are = refl;
              one = number_clause f at.0 l.0 l.1;
              span_is = refl;
            },
            sym says.1,
            says.0,
          ),
        );
    all = λ c of.
        let w = clause_number f c.clause of.one in
        let l = w.1.0 in
        let same : l.clause ≡ c.clause = w.1.1.1 in
        let lt : w.0 < length judged = (let within = slice_get_within f.loop_clauses w.0 l w.1.1.0 in let size = loops.same_length in omega (arith, within, size)) in
        let one = some_at judged w.0 lt in
        let says = loops.each w.0 l one.0 w.1.1.0 one.1 in
        let named : c.names ≡ C.loop_names f.result types = of.names_are ∙ ap (λ (ts : List TypeData). C.loop_names f.result ts) (one_locals f types locals c of) in
        let placed : c.span ≡ l.clause.block = of.span_is ∙ ap (λ (x : Clause). x.block) (sym same) in
        let is : c ≡ stated (C.loop_names f.result types) C.LoopBlock NoTypes l.clause l.clause.block =
        λ i. record { names = named i; block = of.block_is i; types = of.types_are i; clause = sym same i; span = placed i } in (
          one.0,
          (at_contained judged w.0 one.0 one.1, placed ∙ sym says.1, subst (λ (d : Stated). ClauseSays program d one.0) (sym is) says.0),
        );
  }

  pub no_local : (f : Function) → LocalsSay program f None → (c : Stated) → IsOfLoop program f c → ⊥
  no_local f says c of =
      let d : TypeData = TupleType NoTypes in
      let size = of.same_length in
      let lt = says.1.0 in
      says.1.1 (get_or of.locals says.0 d) (of.each says.0 (get_or of.locals says.0 d) (slice_get-get_or of.locals says.0 d (omega (arith, lt, size))))

  pub no_loop : (f : Function) → f.loop_clauses ≡ [] → (c : Stated) → IsOfLoop program f c → ⊥
  no_loop f none c of = none_contained c.clause (subst (λ (ls : List LoopClause). Contains (map (λ l. l.clause) ls) c.clause) none of.one)

  -- ---- declarations one after another

  module _ {K D : Type 0} (IsOf : D → Stated → Type 0) (entries : List (K × D)) where
    one_more : (n : ℕ) (e : K × D) → slice_get entries n ≡ Some e → take (n + 1) entries ≡ take n entries ++ e ∷ []
    one_more n e h =
        ap (λ m. take m entries) (add-one n) ∙ take-suc entries n e (slice_get_within entries n e h)
        ∙ ap (λ (y : K × D). take n entries ++ y ∷ []) (get_or_from_slice_get entries n e e h)

    pub some_more : (n : ℕ) (e : K × D) (xs : List JudgedClause) → slice_get entries n ≡ Some e
        → TellsOf program (λ c. OfSome IsOf (take n entries) c ⊎ IsOf e.1 c) xs → TellsOf program (OfSome IsOf (take (n + 1) entries)) xs
    some_more n e xs at known =
        let same = one_more n e at in
        subst (λ (es : List (K × D)). TellsOf program (OfSome IsOf es) xs) (sym same)
        (tells_same _ _ xs
        (λ c h. elim h [
          | inl b ↦ (b.0, (Contains-append_left (take n entries) (e ∷ []) b.0 b.1.0, b.1.1))
          | inr this ↦ (e, (Contains-push (take n entries) e, this))
        ])
        (λ c b. elim (Contains-push_cases (take n entries) e b.0 b.1.0) [
          | inl there ↦ inl (b.0, (there, b.1.1))
          | inr is ↦ inr (subst (λ (x : K × D). IsOf x.1 c) (sym is) b.1.1)
        ]) known)

    pub some_none : (xs : List JudgedClause) → xs ≡ [] → TellsOf program (OfSome IsOf (take 0 entries)) xs
    some_none xs e = subst (λ (ys : List JudgedClause). TellsOf program (OfSome IsOf (take 0 entries)) ys) (sym e) (tells_none (OfSome IsOf (take 0 entries)) (λ c b. none_contained b.0 b.1.0))

    pub some_all : (n : ℕ) (xs : List JudgedClause) → length entries ≤ n → TellsOf program (OfSome IsOf (take n entries)) xs → TellsOf program (OfSome IsOf entries) xs
    some_all n xs le known = subst (λ (es : List (K × D)). TellsOf program (OfSome IsOf es) xs) (take_all n entries le) known

-- ---- the clauses of loops one after another

pub record LoopsTo (program : Program) (f : Function) (locals : List TypeData) (judged : List JudgedClause) (n : ℕ) : Type 0 where
  pub known : length judged ≡ n
  pub each : (k : ℕ) (l : LoopClause) (one : JudgedClause) → k < n → slice_get f.loop_clauses k ≡ Some l → slice_get judged k ≡ Some one
      → ClauseSays program (stated (C.loop_names f.result locals) C.LoopBlock NoTypes l.clause l.clause.block) one × (one.span ≡ l.clause.block)

pub no_loops : (program : Program) (f : Function) (locals : List TypeData) (judged : List JudgedClause) → judged ≡ [] → LoopsTo program f locals judged 0
no_loops program f locals judged e = record { known = ap (λ (js : List JudgedClause). length js) e; each = λ k l one lt at there. absurd (omega (arith, lt)) }

last_is : (k n : ℕ) → k < n + 1 → (k < n) ⊎ (k ≡ n)
last_is k n lt = elim (cases_lt k n) [ inl below ↦ inl below | inr other ↦ inr (omega (arith, lt, other)) ]

pub more_loops : (program : Program) (f : Function) (locals : List TypeData) (judged new : List JudgedClause) (n : ℕ) (l : LoopClause) (one : JudgedClause) → slice_get f.loop_clauses n ≡ Some l
    → ClauseSays program (stated (C.loop_names f.result locals) C.LoopBlock NoTypes l.clause l.clause.block) one → one.span ≡ l.clause.block → new ≡ judged ++ one ∷ []
    → LoopsTo program f locals judged n → LoopsTo program f locals new (n + 1)
more_loops program f locals judged new n l one at says placed e to = record {
  known = (let a = ap (λ (js : List JudgedClause). length js) e in let b = length-append judged (one ∷ []) in let c = to.known in omega (arith, a, b, c));
  each = λ k x j lt there stands.
      let stands2 : slice_get (judged ++ one ∷ []) k ≡ Some j = ap (λ (js : List JudgedClause). slice_get js k) (sym e) ∙ stands in
      elim (last_is k n lt) [
        | inl below ↦ (let size = to.known in to.each k x j below there (sym (get_before judged (one ∷ []) k (omega (arith, below, size))) ∙ stands2))
        | inr here ↦
            let same : l ≡ x = some_inside l x (sym at ∙ ap (λ (m : ℕ). slice_get f.loop_clauses m) (sym here) ∙ there) in
            let own : one ≡ j = some_inside one j (sym (last_there judged one) ∙ ap (λ (m : ℕ). slice_get (judged ++ one ∷ []) m) (to.known ∙ sym here) ∙ stands2) in
            subst (λ (y : LoopClause). ClauseSays program (stated (C.loop_names f.result locals) C.LoopBlock NoTypes y.clause y.clause.block) j × (j.span ≡ y.clause.block)) same
            (subst (λ (i : JudgedClause). ClauseSays program (stated (C.loop_names f.result locals) C.LoopBlock NoTypes l.clause l.clause.block) i × (i.span ≡ l.clause.block)) own (says, placed))
      ];
}

pub all_loops : (program : Program) (f : Function) (locals : List TypeData) (judged : List JudgedClause) (n : ℕ) → n ≡ length f.loop_clauses → LoopsTo program f locals judged n → LoopsSay program f locals judged
all_loops program f locals judged n size to = record {
  same_length = to.known ∙ size;
  each = λ k l one at there. to.each k l one (let within = slice_get_within f.loop_clauses k l at in omega (arith, within, size)) at there;
}

-- ---- spec functions

pub or_improper : (s : System) (first proper wanted : Bool) → (IsTrue first ↔ IsUntypable s) → proper ≡ wanted → IsTrue (first || not proper) ↔ (IsUntypable s ⊎ (wanted ≡ false))
or_improper s true proper wanted a e = ((λ h. inl (a.0 refl)), (λ h. refl))
or_improper s false true wanted a e = (
  (λ h. absurd cc),
  (λ h. elim h [ inl x ↦ (let f : false ≡ true = a.1 x in absurd cc) | inr y ↦ (let f : true ≡ false = e ∙ y in absurd cc) ]),
)
or_improper s false false wanted a e = ((λ h. inr (sym e)), (λ h. refl))

pub functions_break : (program : Program) (rule : ClauseRule) (found : Option Span)
    → IsFirstOrNone (Among (λ (d : FunctionId × SpecFunction). d.1.span) (λ d. SpecFunctionBreaks program rule d.1) program.spec_functions) found → IsFirstOrNone (FunctionBreaksAt program rule) found
functions_break program rule found first =
    first_renamed (Among (λ (d : FunctionId × SpecFunction). d.1.span) (λ d. SpecFunctionBreaks program rule d.1) program.spec_functions) (FunctionBreaksAt program rule) found
    (λ p h. (h.0, (h.1, h.2, h.3))) (λ p h. (h.0, h.1.0, h.1.1, h.1.2)) first

-- ---- the clauses of all declarations

pub all_roots : (program : Program) (xs ys zs all : List JudgedClause) → TellsOf program (OfSome (IsOfFunction program) program.functions) xs → TellsOf program (OfSome (IsOfStruct program) program.structs) ys
    → TellsOf program (OfSome (IsOfModule program) program.modules) zs → all ≡ (xs ++ ys) ++ zs → TellsOf program (IsRoot program) all
all_roots program xs ys zs all a b c e =
    subst (λ (js : List JudgedClause). TellsOf program (IsRoot program) js) (sym e)
    (tells_same program _ (IsRoot program) ((xs ++ ys) ++ zs) there back (tells_both program _ _ (xs ++ ys) zs (tells_both program _ _ xs ys a b) c))
  where
    there : (r : Stated) → ((OfSome (IsOfFunction program) program.functions r ⊎ OfSome (IsOfStruct program) program.structs r) ⊎ OfSome (IsOfModule program) program.modules r) → IsRoot program r
    there r (inl (inl (d, (has, inl own)))) = R.OfFunction d.0 d.1 has own
    there r (inl (inl (d, (has, inr own)))) = R.OfLoop d.0 d.1 has own
    there r (inl (inr (d, (has, own)))) = R.OfStruct d.0 d.1 has own
    there r (inr (d, (has, own))) = R.OfModule d.0 d.1 has own

    back : (r : Stated) → IsRoot program r → ((OfSome (IsOfFunction program) program.functions r ⊎ OfSome (IsOfStruct program) program.structs r) ⊎ OfSome (IsOfModule program) program.modules r)
    back r (R.OfFunction id f has own) = inl (inl ((id, f), (has, inl own)))
    back r (R.OfLoop id f has own) = inl (inl ((id, f), (has, inr own)))
    back r (R.OfStruct id s has own) = inl (inr ((id, s), (has, own)))
    back r (R.OfModule id m has own) = inr ((id, m), (has, own))
