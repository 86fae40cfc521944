-- The states of the locals of the first functions, function by function.
use Rattle.std.proofs.Common.{◌≡◌, ℕ, ◌+◌, inl, inr, List, [], ◌∷◌, ◌++◌, length, get_or, Some, sym, ◌∙◌, ap, subst, arith}
use Rattle.std.specs.Prelude.{slice_get}
use Rattle.std.proofs.lemmas.Bool.{cases_lt}
use Rattle.std.proofs.lemmas.List.{get_or_append_left, length_push}
use Rattle.std.proofs.lemmas.Option.{get_or_from_slice_get, slice_get_read, slice_get_within}
use Rattle.std.proofs.Math.Seq.{get_or-append_seam}
use Rattle.base.specs.declared.types.FunctionId.{FunctionId}
use Rattle.program.specs.declared.declaration.Function.{Function}
use Rattle.program.specs.declared.program.Program.{Program}
use Rattle.definite_assignment.specs.declared.points.states.LocalStates.{LocalStates}
use Rattle.definite_assignment.specs.WholeProgramStates.{HasStates, HaveStates}

-- for the first n functions
pub record HaveFirst (program : Program) (states : List LocalStates) (n : ℕ) : Type 0 where
  pub len : length states ≡ n
  pub each : (k : ℕ) (of : LocalStates) → slice_get states k ≡ Some of → (id : FunctionId) (f : Function) → slice_get program.functions k ≡ Some (id, f) → HasStates program f of

pub none_first : (program : Program) (states : List LocalStates) → states ≡ [] → HaveFirst program states 0
none_first program states none =
    let size = ap (λ (xs : List LocalStates). length xs) none in
    record {
      len = size;
      each = λ k of at id f there. (let within = slice_get_within states k of at in absurd (omega (arith, size, within)));
    }

one_entry : (p q : FunctionId × Function) → Some p ≡ Some q → p ≡ q
one_entry p q h = cc

pub more_first : (program : Program) (old new : List LocalStates) (own : LocalStates) (n : ℕ) (id : FunctionId) (f : Function) → HaveFirst program old n → new ≡ old ++ own ∷ []
    → slice_get program.functions n ≡ Some (id, f) → HasStates program f own → HaveFirst program new (n + 1)
more_first program old new own n id f first push at has =
    let len = first.len in
    let size = ap (λ (xs : List LocalStates). length xs) push ∙ length_push old own in
    record {
      len = omega (arith, size, len);
      each = λ k of given name g there.
          let within = slice_get_within new k of given in
          let read : get_or (old ++ own ∷ []) k of ≡ of = ap (λ (xs : List LocalStates). get_or xs k of) (sym push) ∙ get_or_from_slice_get new k of of given in
          elim (cases_lt k n) [
            | inl less ↦ first.each k of
                (slice_get_read old n k of (sym len) less (sym (sym (get_or_append_left old (own ∷ []) of k (omega (arith, less, len))) ∙ read))) name g there
            | inr more ↦ (
                let here : k ≡ length old = omega (arith, within, size, more, len) in
                let last : n ≡ k = omega (arith, within, size, more, len) in
                let same : own ≡ of = sym (get_or-append_seam old own [] of) ∙ ap (λ (m : ℕ). get_or (old ++ own ∷ []) m of) (sym here) ∙ read in
                let function : f ≡ g = ap (λ (d : FunctionId × Function). d.1) (one_entry (id, f) (name, g) (sym at ∙ ap (λ (m : ℕ). slice_get program.functions m) last ∙ there)) in
                subst (λ (d : Function). HasStates program d of) function (subst (λ (s : LocalStates). HasStates program f s) same has))
          ];
    }

pub all_first : (program : Program) (states : List LocalStates) (n : ℕ) → n ≡ length program.functions → HaveFirst program states n → HaveStates program states
all_first program states n all first = record { same_length = first.len ∙ all; each = first.each }
