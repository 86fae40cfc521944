-- Blocks of clauses are read exactly.
use Rattle.std.proofs.Common.{◌≡◌, ℕ, suc, ◌≤◌, true, false, ◌&&◌, List, [], ◌∷◌, ◌++◌, Some, None, length, refl, sym, ap, subst, ◌∙◌, arith}
use Rattle.std.specs.Prelude.{is_some}
use Rattle.std.specs.Option.{option_map}
use Rattle.std.specs.List.{AllByRecursion}
use Rattle.tokens.specs.declared.token.Token.{Token}
use Rattle.tokens.specs.declared.token.Punctuation.TheVariants.{LeftBrace, RightBrace}
use Rattle.syntax_tree.specs.Lexemes.{sign}
use Rattle.syntax_tree.specs.declared.slot.Slot.{Slot}
use Rattle.syntax_tree.specs.declared.slot.Slot.TheVariants.{Function, Struct, Module, Schema, SpecFunction, Loop}
use Rattle.syntax_tree.specs.Slots.{MayHold}
use Rattle.syntax_tree.specs.ClauseSpelling.{clause_spelling, clauses_spelling, clause_block_spelling}
use Rattle.syntax_tree.specs.ProperClauses.{IsProperForm, AreProperClauses}
use Rattle.syntax_tree.specs.declared.clause.Clause.{Clause}
use Rattle.syntax_tree.specs.declared.clause.Clause.TheVariants.{Pragma, Requires, Ensures, AbortsIf, Modifies, Invariant, Let, Include, Variable}
use Rattle.parser_base.specs.Beginnings.{Begins}
use Rattle.parser_base.specs.TokenReading.{after_sign}
use Rattle.parser_base.proofs.Steps.{step, last, if_read, if_not, bind_some, map_some, cond_true, cond_false}
use Rattle.parser_base.proofs.BeginLemmas.{Begins-append, Begins-split, Begins-first, length-Begins}
use Rattle.parser_base.proofs.TokenLemmas.{after_sign-sound, after_sign-complete}
use Rattle.parser_base.proofs.RepeatLemmas.{repeat_at-sound, repeat_at-complete}
use Rattle.base.proofs.TruthValues.{both_true as both}
use Rattle.item_parser.specs.ClauseReading.{clause_at}
use Rattle.item_parser.specs.BlockReading.{may_hold, may_hold_all, before_clause, clauses_at, block_at}
use Rattle.item_parser.proofs.ClauseLemmas.{clause_at-sound, clause_at-complete, clause_no_sign, clause_some}

-- ---- the clauses allowed in a block

may_hold-sound : (slot : Slot) (c : Clause) → may_hold slot c ≡ true → MayHold slot c
may_hold-sound Function (Pragma span p) is = tt
may_hold-sound Function (Requires span e) is = tt
may_hold-sound Function (Ensures span e) is = tt
may_hold-sound Function (AbortsIf span e code) is = tt
may_hold-sound Function (Modifies span t) is = tt
may_hold-sound Function (Invariant span true e) is = absurd (cc)
may_hold-sound Function (Invariant span false e) is = absurd (cc)
may_hold-sound Function (Let span is_post name e) is = tt
may_hold-sound Function (Include i) is = tt
may_hold-sound Function (Variable x) is = absurd (cc)
may_hold-sound Struct (Pragma span p) is = tt
may_hold-sound Struct (Requires span e) is = absurd (cc)
may_hold-sound Struct (Ensures span e) is = absurd (cc)
may_hold-sound Struct (AbortsIf span e code) is = absurd (cc)
may_hold-sound Struct (Modifies span t) is = absurd (cc)
may_hold-sound Struct (Invariant span true e) is = absurd (cc)
may_hold-sound Struct (Invariant span false e) is = tt
may_hold-sound Struct (Let span is_post name e) is = tt
may_hold-sound Struct (Include i) is = tt
may_hold-sound Struct (Variable x) is = absurd (cc)
may_hold-sound Module (Pragma span p) is = tt
may_hold-sound Module (Requires span e) is = absurd (cc)
may_hold-sound Module (Ensures span e) is = absurd (cc)
may_hold-sound Module (AbortsIf span e code) is = absurd (cc)
may_hold-sound Module (Modifies span t) is = absurd (cc)
may_hold-sound Module (Invariant span true e) is = tt
may_hold-sound Module (Invariant span false e) is = tt
may_hold-sound Module (Let span is_post name e) is = tt
may_hold-sound Module (Include i) is = tt
may_hold-sound Module (Variable x) is = absurd (cc)
may_hold-sound Schema (Pragma span p) is = tt
may_hold-sound Schema (Requires span e) is = tt
may_hold-sound Schema (Ensures span e) is = tt
may_hold-sound Schema (AbortsIf span e code) is = tt
may_hold-sound Schema (Modifies span t) is = tt
may_hold-sound Schema (Invariant span true e) is = tt
may_hold-sound Schema (Invariant span false e) is = tt
may_hold-sound Schema (Let span is_post name e) is = tt
may_hold-sound Schema (Include i) is = tt
may_hold-sound Schema (Variable x) is = tt
may_hold-sound SpecFunction c is = absurd (cc)
may_hold-sound Loop (Pragma span p) is = absurd (cc)
may_hold-sound Loop (Requires span e) is = absurd (cc)
may_hold-sound Loop (Ensures span e) is = absurd (cc)
may_hold-sound Loop (AbortsIf span e code) is = absurd (cc)
may_hold-sound Loop (Modifies span t) is = absurd (cc)
may_hold-sound Loop (Invariant span true e) is = absurd (cc)
may_hold-sound Loop (Invariant span false e) is = tt
may_hold-sound Loop (Let span is_post name e) is = absurd (cc)
may_hold-sound Loop (Include i) is = absurd (cc)
may_hold-sound Loop (Variable x) is = absurd (cc)

may_hold-complete : (slot : Slot) (c : Clause) → MayHold slot c → may_hold slot c ≡ true
may_hold-complete Function (Pragma span p) h = refl
may_hold-complete Function (Requires span e) h = refl
may_hold-complete Function (Ensures span e) h = refl
may_hold-complete Function (AbortsIf span e code) h = refl
may_hold-complete Function (Modifies span t) h = refl
may_hold-complete Function (Invariant span true e) h = absurd h
may_hold-complete Function (Invariant span false e) h = absurd h
may_hold-complete Function (Let span is_post name e) h = refl
may_hold-complete Function (Include i) h = refl
may_hold-complete Function (Variable x) h = absurd h
may_hold-complete Struct (Pragma span p) h = refl
may_hold-complete Struct (Requires span e) h = absurd h
may_hold-complete Struct (Ensures span e) h = absurd h
may_hold-complete Struct (AbortsIf span e code) h = absurd h
may_hold-complete Struct (Modifies span t) h = absurd h
may_hold-complete Struct (Invariant span true e) h = absurd h
may_hold-complete Struct (Invariant span false e) h = refl
may_hold-complete Struct (Let span is_post name e) h = refl
may_hold-complete Struct (Include i) h = refl
may_hold-complete Struct (Variable x) h = absurd h
may_hold-complete Module (Pragma span p) h = refl
may_hold-complete Module (Requires span e) h = absurd h
may_hold-complete Module (Ensures span e) h = absurd h
may_hold-complete Module (AbortsIf span e code) h = absurd h
may_hold-complete Module (Modifies span t) h = absurd h
may_hold-complete Module (Invariant span true e) h = refl
may_hold-complete Module (Invariant span false e) h = refl
may_hold-complete Module (Let span is_post name e) h = refl
may_hold-complete Module (Include i) h = refl
may_hold-complete Module (Variable x) h = absurd h
may_hold-complete Schema (Pragma span p) h = refl
may_hold-complete Schema (Requires span e) h = refl
may_hold-complete Schema (Ensures span e) h = refl
may_hold-complete Schema (AbortsIf span e code) h = refl
may_hold-complete Schema (Modifies span t) h = refl
may_hold-complete Schema (Invariant span true e) h = refl
may_hold-complete Schema (Invariant span false e) h = refl
may_hold-complete Schema (Let span is_post name e) h = refl
may_hold-complete Schema (Include i) h = refl
may_hold-complete Schema (Variable x) h = refl
may_hold-complete SpecFunction c h = absurd h
may_hold-complete Loop (Pragma span p) h = absurd h
may_hold-complete Loop (Requires span e) h = absurd h
may_hold-complete Loop (Ensures span e) h = absurd h
may_hold-complete Loop (AbortsIf span e code) h = absurd h
may_hold-complete Loop (Modifies span t) h = absurd h
may_hold-complete Loop (Invariant span true e) h = absurd h
may_hold-complete Loop (Invariant span false e) h = refl
may_hold-complete Loop (Let span is_post name e) h = absurd h
may_hold-complete Loop (Include i) h = absurd h
may_hold-complete Loop (Variable x) h = absurd h

each_proper : (slot : Slot) (xs : List Clause) → AllByRecursion IsProperForm xs → may_hold_all slot xs ≡ true → AreProperClauses slot xs
each_proper slot [] p e = tt
each_proper slot (x ∷ xs) p e = let b = both (may_hold slot x) (may_hold_all slot xs) e in ((may_hold-sound slot x b.0, p.0), each_proper slot xs p.1 b.1)

proper_forms : (slot : Slot) (xs : List Clause) → AreProperClauses slot xs → AllByRecursion IsProperForm xs
proper_forms slot [] p = tt
proper_forms slot (x ∷ xs) p = (p.0.1, proper_forms slot xs p.1)

all_held : (slot : Slot) (xs : List Clause) → AreProperClauses slot xs → may_hold_all slot xs ≡ true
all_held slot [] p = refl
all_held slot (x ∷ xs) p = ap (λ b. b && may_hold_all slot xs) (may_hold-complete slot x p.0.0) ∙ all_held slot xs p.1

-- ---- clauses up to a brace

before_clause-sound : (ts us : List Token) → before_clause ts ≡ Some us → ts ≡ us
unfolding before_clause
before_clause-sound ts us e = (if_not (is_some (after_sign RightBrace ts)) ts us e).1

clauses_at-sound : (n : ℕ) (ts : List Token) (r : List Clause × List Token) → clauses_at n ts ≡ Some r → Begins (clauses_spelling r.0) ts r.1 × AllByRecursion IsProperForm r.0
unfolding clauses_at
clauses_at-sound n ts r e =
    repeat_at-sound before_clause (clause_at n) clause_spelling IsProperForm
    (λ ts us r o i. subst (λ vs. Begins (clause_spelling r.0) vs r.1 × IsProperForm r.0) (sym (before_clause-sound ts us o)) (clause_at-sound n us r i)) (length ts) ts r e

clauses_at-complete : (n : ℕ) (xs : List Clause) (ts rest inside : List Token) → length ts ≤ n → Begins (clauses_spelling xs) ts rest → AllByRecursion IsProperForm xs → after_sign RightBrace rest ≡ Some inside → clauses_at (suc n) ts ≡ Some (xs, rest)
unfolding clauses_at before_clause
clauses_at-complete n xs ts rest inside h b p e =
    repeat_at-complete before_clause (clause_at (suc n)) clause_spelling IsProperForm n
    (λ c ts rest h b p. record {
      value = ts;
      first = cond_false (is_some (after_sign RightBrace ts)) None (Some ts) (ap (λ o. is_some {T = List Token} o) (clause_no_sign RightBrace c ts rest b));
      then = clause_at-complete n c ts rest h b p;
    }) (λ c p. clause_some c) (length ts) xs ts rest (omega arith) h b p (cond_true (is_some (after_sign RightBrace rest)) None (Some rest) (ap (λ o. is_some {T = List Token} o) e))

-- ---- blocks

-- A block that is read holds proper clauses, and the tokens before the remaining ones spell it.
pub block_at-sound : (slot : Slot) (n : ℕ) (ts : List Token) (r : List Clause × List Token) → block_at slot n ts ≡ Some r → Begins (clause_block_spelling r.0) ts r.1 × AreProperClauses slot r.0
unfolding block_at
block_at-sound slot n ts r e =
    let o = step (after_sign LeftBrace ts) _ r e in
    let c = step (clauses_at n o.value) _ r o.then in
    let h = if_read (may_hold_all slot c.value.0) (option_map (λ rest. (c.value.0, rest)) (after_sign RightBrace c.value.1)) r c.then in
    let l = last (after_sign RightBrace c.value.1) (λ rest. (c.value.0, rest)) r h.1 in
    let read = clauses_at-sound n o.value c.value c.first in
    subst (λ q. Begins (clause_block_spelling q.0) ts q.1 × AreProperClauses slot q.0) l.then (
      Begins-append (sign LeftBrace ∷ []) (clauses_spelling c.value.0 ++ sign RightBrace ∷ []) ts o.value l.value (after_sign-sound LeftBrace ts o.value o.first)
          (Begins-append (clauses_spelling c.value.0) (sign RightBrace ∷ []) o.value c.value.1 l.value read.0 (after_sign-sound RightBrace c.value.1 l.value l.first)),
      each_proper slot c.value.0 read.1 h.0,
    )

-- Each block of proper clauses is read from the tokens that spell it, whatever follows.
pub block_at-complete : (slot : Slot) (n : ℕ) (xs : List Clause) (ts rest : List Token) → length ts ≤ n → Begins (clause_block_spelling xs) ts rest → AreProperClauses slot xs → block_at slot (suc n) ts ≡ Some (xs, rest)
unfolding block_at
block_at-complete slot n xs ts rest h b p =
    let o = Begins-first (sign LeftBrace) (clauses_spelling xs ++ sign RightBrace ∷ []) ts rest b in
    let c = Begins-split (clauses_spelling xs) (sign RightBrace ∷ []) o.mid rest o.back in
    let end = after_sign-complete RightBrace c.mid rest c.back in
    bind_some (after_sign LeftBrace ts) _ o.mid (after_sign-complete LeftBrace ts o.mid o.front)
    ∙ bind_some (clauses_at (suc n) o.mid) _ (xs, c.mid) (clauses_at-complete n xs o.mid c.mid rest (omega (arith, h, length-Begins (sign LeftBrace ∷ []) ts o.mid o.front)) c.front (proper_forms slot xs p) end)
    ∙ cond_true (may_hold_all slot xs) (option_map (λ rest. (xs, rest)) (after_sign RightBrace c.mid)) None (all_held slot xs p)
    ∙ map_some (after_sign RightBrace c.mid) (λ rest. (xs, rest)) rest end
