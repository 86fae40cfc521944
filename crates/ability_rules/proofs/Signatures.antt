-- A signature lacks something if and only if a type in it does.
use Rattle.std.proofs.Common.{◌≡◌, ◌↔◌, ℕ, zero, suc, ◌+◌, ◌<◌, ◌≤◌, inl, inr, Bool, true, false, List, [], ◌∷◌, length, get_or, map, take, All, refl, sym, ◌∙◌, ap, subst, arith, length-append}
use Rattle.std.specs.Prelude.{not}
use Rattle.std.specs.Bool.{IsTrue}
use Rattle.std.proofs.lemmas.List.{get_or_append_left, get_or-map, length-map, take_all}
use Rattle.std.proofs.lemmas.List.Elements.{All-head, All-more, All-tail, Contains-push, Contains-push_cases}
use Rattle.base.specs.TypeData.{TypeData}
use Rattle.program.specs.declared.declaration.Function.{Function}
use Rattle.program.specs.declared.declaration.TypedName.{TypedName}
use Rattle.program.specs.declared.program.Program.{Program}
use Rattle.typing_rules.specs.Required.{LacksDeclared, constrained_in}

not_both : (b : Bool) → b ≡ true → b ≡ false → ⊥
not_both b t f = cc

of_one : (g : TypeData → Bool) (names : List TypedName) (of : TypeData) → All (λ (p : TypedName). g p.annotation ≡ true) names → (k : ℕ) → k < length names → get_or (map (λ (p : TypedName). p.annotation) names) k of ≡ of → g of ≡ true
of_one g [] of all k b e = absurd (omega arith)
of_one g (p ∷ names) of all zero b e = ap g (sym e) ∙ All-head (λ (q : TypedName). g q.annotation ≡ true) p names all
of_one g (p ∷ names) of all (suc k) b e = of_one g names of (All-tail (λ (q : TypedName). g q.annotation ≡ true) p names all) k (omega arith) e

module _ (program : Program) (f : Function) where
  abbrev is_so : TypeData → Bool
  is_so t = constrained_in program f t

  abbrev annotations : List TypeData
  annotations = map (λ (p : TypedName). p.annotation) f.parameters

  abbrev pub AreMet : List TypedName → Type 0
  AreMet ps = All (λ (p : TypedName). is_so p.annotation ≡ true) ps

  pub more_met : (k : ℕ) (p : TypedName) → k < length f.parameters → get_or f.parameters k p ≡ p → is_so p.annotation ≡ true → AreMet (take k f.parameters) → AreMet (take (k + 1) f.parameters)
  more_met k p b e met all = All-more (λ (q : TypedName). is_so q.annotation ≡ true) f.parameters k p b all (subst (λ (q : TypedName). is_so q.annotation ≡ true) (sym e) met)

  pub all_met : (k : ℕ) → length f.parameters ≤ k → AreMet (take k f.parameters) → AreMet f.parameters
  all_met k h all = subst (λ (ps : List TypedName). AreMet ps) (take_all k f.parameters h) all

  pub parameter_lacks : (k : ℕ) (p : TypedName) → k < length f.parameters → get_or f.parameters k p ≡ p → is_so p.annotation ≡ false → IsTrue true ↔ LacksDeclared program f
  parameter_lacks k p b e lacks =
      let long = length-map f.parameters (λ (q : TypedName). q.annotation) in
      let more = length-append annotations (f.result ∷ []) in (
        λ t. record {
          of = p.annotation;
          declared = (k, omega arith, get_or_append_left annotations (f.result ∷ []) p.annotation k (omega arith) ∙ get_or-map (λ (q : TypedName). q.annotation) f.parameters k p p.annotation b ∙ ap (λ (q : TypedName). q.annotation) e);
          lacks = lacks;
        },
        λ h. refl,
      )

  pub result_lacks : (is : Bool) → is ≡ is_so f.result → AreMet f.parameters → IsTrue (not is) ↔ LacksDeclared program f
  result_lacks true e all = (
    λ t. absurd (cc),
    λ h. elim (Contains-push_cases annotations f.result h.of h.declared) [
      | inl old ↦ absurd (not_both (is_so h.of) (of_one is_so f.parameters h.of all old.0 (let long = length-map f.parameters (λ (q : TypedName). q.annotation) in let inside = old.1 in omega (arith, inside, long)) old.2) h.lacks)
      | inr new ↦ absurd (not_both (is_so f.result) (sym e) (ap is_so new ∙ h.lacks))
    ],
  )
  result_lacks false e all = (λ t. record { of = f.result; declared = Contains-push annotations f.result; lacks = sym e }, λ h. refl)
