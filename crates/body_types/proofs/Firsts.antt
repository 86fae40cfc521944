-- The first function that visibility forbids an access in, function by function.
use Rattle.std.proofs.Common.{◌≡◌, ◌⊎◌, ℕ, ◌+◌, ◌<◌, ◌≤◌, Bool, true, false, List, [], ◌∷◌, length, Option, Some, None, inl, inr, refl, sym, ◌∙◌, ap, subst, arith, if◌then◌else◌}
use Rattle.std.specs.Prelude.{slice_get}
use Rattle.std.specs.Bool.{Decides}
use Rattle.std.proofs.lemmas.Bool.{cases_lt, false≢true}
use Rattle.std.proofs.lemmas.Option.{slice_get_within, get_or_from_slice_get, slice_get-get_or}
use Rattle.base.specs.declared.span.Span.{Span}
use Rattle.base.specs.declared.types.FunctionId.{FunctionId}
use Rattle.program.specs.declared.declaration.Function.{Function}
use Rattle.program.specs.declared.program.Program.{Program}
use Rattle.program.specs.Homes.{function_home}
use Rattle.program.specs.Order.{IsBefore, IsFirstOrNone, IsEarlier}
use Rattle.program.proofs.Firsts.{first_of_both, first_renamed}
use Rattle.typing_rules.specs.Faults.{BreaksVisibility}
use Rattle.typing_rules.specs.FieldBars.{BarsUse}
use Rattle.body_types.specs.Firsts.{FunctionBreaks, FirstsBreak}

irreflexive : (p : Span) → IsBefore p p → ⊥
irreflexive p (inl h) = omega arith
irreflexive p (inr h) = let s = h.1 in omega arith

-- each index below the length has an entry
pub nothing_there : {A : Type 0} (xs : List A) (n : ℕ) → n < length xs → None ≡ slice_get xs n → ⊥
nothing_there [] n b h = omega arith
nothing_there (x ∷ xs) n b h = let e = slice_get-get_or (x ∷ xs) n x b in cc

some_same : {A : Type 0} (x y : A) → Some x ≡ Some y → x ≡ y
some_same x y e = cc

module _ (program : Program) where
  pub no_function : IsFirstOrNone (FirstsBreak program 0) None
  no_function = λ span h. let b = h.1.0 in omega arith

  -- the function with this number
  module _ (n : ℕ) (id : FunctionId) (f : Function) (at : slice_get program.functions n ≡ Some (id, f)) where
    breaks_here : (span : Span) → FunctionBreaks program n span → (f.span ≡ span) × BarsUse program (function_home id) f
    breaks_here span b =
        let one : ◌≡◌ {A = FunctionId × Function} (b.id, b.function) (id, f) = some_same (b.id, b.function) (id, f) (sym b.stands ∙ at) in (
          ap (λ (d : FunctionId × Function). d.1.span) (sym one) ∙ b.span_is,
          subst (λ (d : FunctionId × Function). BarsUse program (function_home d.0) d.1) one b.bars,
        )

    of_one : (found : Bool) → Decides found (BarsUse program (function_home id) f) → IsFirstOrNone (FunctionBreaks program n) (if found then Some f.span else None)
    of_one false d = λ span b. false≢true (d.1 (breaks_here span b).1)
    of_one true d = record {
      one = record { id = id; function = f; stands = at; span_is = refl; bars = d.0 refl };
      first = λ other b before. irreflexive f.span (subst (λ (p : Span). IsBefore p f.span) (sym (breaks_here other b).0) before);
    }

    split : (span : Span) → FirstsBreak program (n + 1) span → FirstsBreak program n span ⊎ FunctionBreaks program n span
    split span h = elim (cases_lt h.0 n) [
      | inl less ↦ inl (h.0, (less, h.1.1))
      | inr more ↦ inr (let b = h.1.0 in let same : h.0 ≡ n = omega (arith, b, more) in subst (λ (k : ℕ). FunctionBreaks program k span) same h.1.1)
    ]

    join : (span : Span) → FirstsBreak program n span ⊎ FunctionBreaks program n span → FirstsBreak program (n + 1) span
    join span (inl h) = (h.0, ((let b = h.1.0 in omega (arith, b)), h.1.1))
    join span (inr h) = (n, (omega arith, h))

    pub next_function : (is_barred : Bool) (found next o : Option Span) → Decides is_barred (BarsUse program (function_home id) f) → next ≡ (if is_barred then Some f.span else None)
        → IsFirstOrNone (FirstsBreak program n) found → IsEarlier found next o → IsFirstOrNone (FirstsBreak program (n + 1)) o
    next_function is_barred found next o d is first e =
        first_renamed (λ p. FirstsBreak program n p ⊎ FunctionBreaks program n p) (FirstsBreak program (n + 1)) o join split
        (first_of_both (FirstsBreak program n) (FunctionBreaks program n) found next o first
        (subst (λ (p : Option Span). IsFirstOrNone (FunctionBreaks program n) p) (sym is) (of_one is_barred d)) e)

  -- for all functions
  broken : (n : ℕ) (span : Span) → FirstsBreak program n span → BreaksVisibility program span
  broken n span h =
      let b = h.1.1 in
      record {
        id = b.id;
        function = b.function;
        declared = (
          h.0,
          slice_get_within program.functions h.0 (b.id, b.function) b.stands,
          get_or_from_slice_get program.functions h.0 (b.id, b.function) (b.id, b.function) b.stands,
        );
        span_is = b.span_is;
        bars = b.bars;
      }

  found_among : (n : ℕ) (span : Span) → length program.functions ≤ n → BreaksVisibility program span → FirstsBreak program n span
  found_among n span le b =
      let lt = b.declared.1 in (
        b.declared.0,
        (
          omega (arith, le, lt),
          record {
            id = b.id;
            function = b.function;
            stands = slice_get-get_or program.functions b.declared.0 (b.id, b.function) lt ∙ ap Some b.declared.2;
            span_is = b.span_is;
            bars = b.bars;
          },
        ),
      )

  pub all_functions : (n : ℕ) (found : Option Span) → length program.functions ≤ n → IsFirstOrNone (FirstsBreak program n) found → IsFirstOrNone (BreaksVisibility program) found
  all_functions n found le first = first_renamed (FirstsBreak program n) (BreaksVisibility program) found (broken n) (λ span b. found_among n span le b) first
