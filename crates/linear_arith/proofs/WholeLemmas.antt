-- The stages that an elimination keeps: all constraints on its unknown were removed from each.
use Rattle.std.proofs.Common.{◌≡◌, ◌≢◌, ℕ, ◌<◌, List, [], ◌∷◌, ◌++◌, length, get_or, take, pos, refl, sym, ap, ◌∙◌, subst, arith, ◌⊎◌, inl, inr, length-append}
use Rattle.std.specs.Prelude.{Contains}
use Rattle.std.specs.List.{AllPairs}
use Rattle.std.proofs.Math.ListN.{get_or-map}
use Rattle.std.proofs.Math.Seq.{take-append_seam}
use Rattle.std.proofs.lemmas.List.{take-append-le, map-append, length-map}
use Rattle.std.proofs.lemmas.List.Elements.{All-contains}
use Rattle.linear_arith.specs.Inequality.{Inequality, coefficient}
use Rattle.linear_arith.specs.Closure.{IsWithout, IsElimination}
use Rattle.linear_arith.specs.Stages.{IsDerived, IsUnderWay, IsCaughtUp, StandsIn, AreParted, IsExtended, IsWhole, unknowns_of, AreWhole, KeepsStages, NoneIsLeft, HasAllStages}
use Rattle.linear_arith.specs.declared.elimination.Stage.{Stage}
use Rattle.linear_arith.specs.declared.elimination.Derived.{Derived}
use Rattle.linear_arith.specs.declared.elimination.Elimination.{Elimination}
use Rattle.linear_arith.proofs.BoundLemmas.{side_of}
use Rattle.linear_arith.proofs.ClosureLemmas.{sums_stay, without_others}
use Rattle.linear_arith.proofs.GrowthLemmas.{HaveSums, next_keeps, next_fresh, next_old, next_sums, stands_above, stands_below, none_left, eliminated}
use Rattle.linear_arith.proofs.ListLemmas.{each-push}

-- before the first stage
pub no_stages : (elimination : Elimination) → elimination.stages.items ≡ [] → elimination.unknowns.items ≡ [] → KeepsStages elimination
no_stages elimination stages unknowns = record {
  whole = subst (λ (ss : List Stage). AreWhole elimination.found ss) (sym stages) (λ k d l. absurd (omega (arith, l)));
  unknowns = ap unknowns_of stages ∙ sym unknowns;
}

unknown_is_one : (stages : List Stage) (k : ℕ) (d : Stage) (row : Inequality) → k < length stages → IsWithout (unknowns_of stages) row → coefficient (get_or stages k d).unknown row ≡ pos 0
unknown_is_one stages k d row l w =
    let f = λ (stage : Stage). stage.unknown in
    let len = length-map stages f in
    subst (λ (n : ℕ). coefficient n row ≡ pos 0) (get_or-map f stages k d) (w k d.unknown (omega (arith, len, l)))

-- where constraints without the unknowns of all stages are found, the stages are still whole
whole_stays : (old new : List Inequality) (stages : List Stage) → ((row : Inequality) → Contains old row → Contains new row) → ((row : Inequality) → Contains new row → Contains old row ⊎ IsWithout (unknowns_of stages) row) → AreWhole old stages → AreWhole new stages
whole_stays old new stages keep fresh w = λ k d l. record {
  is_found = λ row s. keep row ((w k d l).is_found row s);
  without = (w k d l).without;
  whole = λ row h before n. elim (fresh row h) [
    | inl o ↦ (w k d l).whole row o before n
    | inr all ↦ absurd (n (unknown_is_one stages k d row l all))
  ];
  sums = sums_stay old new (unknowns_of (take k stages)) (get_or stages k d).unknown keep (λ row h. elim (fresh row h) [ inl o ↦ inl o | inr all ↦ inr (unknown_is_one stages k d row l all) ]) (w k d l).sums;
}

-- one more stage
whole_push : (found : List Inequality) (stages : List Stage) (stage : Stage) → AreWhole found stages → IsWhole found (unknowns_of stages) stage → AreWhole found (stages ++ stage ∷ [])
whole_push found stages stage w h = λ k d l.
    let len = length-append stages (stage ∷ []) in
    each-push (λ (k : ℕ) (s : Stage). IsWhole found (unknowns_of (take k (stages ++ stage ∷ []))) s) stages stage d (length stages) refl
    (λ k b. subst (λ (ss : List Stage). IsWhole found (unknowns_of ss) (get_or stages k d)) (sym (take-append-le k stages (stage ∷ []) (omega (arith, b)))) (w k d b))
    (subst (λ (ss : List Stage). IsWhole found (unknowns_of ss) stage) (sym (take-append_seam stages (stage ∷ []))) h) k (omega (arith, len, l))

stands_found : (width : ℕ) (rows : List Inequality) (old : Elimination) (part : List Derived) (row : Inequality) → IsUnderWay width rows old → ((made : Derived) → Contains part made → Contains old.live.items made) → StandsIn part row → Contains old.found row
stands_found width rows old part row u from s = subst (λ (r : Inequality). Contains old.found r) s.same (All-contains (λ (made : Derived). Contains old.found made.row) old.live.items s.made u.live_found (from s.made s.is_live))

stands_without : (width : ℕ) (rows : List Inequality) (old : Elimination) (part : List Derived) (row : Inequality) → IsUnderWay width rows old → ((made : Derived) → Contains part made → Contains old.live.items made) → StandsIn part row → IsWithout old.unknowns.items row
stands_without width rows old part row u from s = subst (λ (r : Inequality). IsWithout old.unknowns.items r) s.same (All-contains (IsDerived width rows old.unknowns.items) old.live.items s.made u.live (from s.made s.is_live)).without

-- the stage that is eliminated is whole after its sums are added
stage_whole : (width : ℕ) (rows : List Inequality) (stage : Stage) (old mid new : Elimination) → IsUnderWay width rows old → IsCaughtUp width rows old → AreParted stage.unknown old.live.items stage.upper.items stage.lower.items mid.live.items → mid.found ≡ old.found → mid.unknowns.items ≡ old.unknowns.items ++ stage.unknown ∷ [] → IsExtended mid new → HaveSums new.found stage.unknown stage.upper.items stage.lower.items → IsWhole new.found old.unknowns.items stage
stage_whole width rows stage old mid new u c parted found unknowns g sums = record {
  is_found = λ row s. next_keeps old mid new found g row (elim s [
    | inl a ↦ stands_found width rows old stage.upper.items row u parted.upper_from a
    | inr b ↦ stands_found width rows old stage.lower.items row u parted.lower_from b
  ]);
  without = λ row s. elim s [
    | inl a ↦ stands_without width rows old stage.upper.items row u parted.upper_from a
    | inr b ↦ stands_without width rows old stage.lower.items row u parted.lower_from b
  ];
  whole = λ row h w n.
      let live = c.keeps row (next_old stage.unknown old mid new found unknowns g row h n) w in
      elim (side_of (coefficient stage.unknown row) n) [
        | inl above ↦ inl (stands_above width rows old stage.unknown stage.upper.items stage.lower.items mid.live.items u parted row live above)
        | inr below ↦ inr (stands_below width rows old stage.unknown stage.upper.items stage.lower.items mid.live.items u parted row live below)
      ];
  sums = next_sums width rows stage.unknown stage.upper.items stage.lower.items old mid new u c parted found unknowns g sums;
}

-- the stages with the one that is eliminated
pub stages_next : (width : ℕ) (rows : List Inequality) (stage : Stage) (old mid new : Elimination) → IsUnderWay width rows old → IsCaughtUp width rows old → KeepsStages old → AreParted stage.unknown old.live.items stage.upper.items stage.lower.items mid.live.items → mid.found ≡ old.found → mid.unknowns.items ≡ old.unknowns.items ++ stage.unknown ∷ [] → new.stages.items ≡ old.stages.items → IsExtended mid new → HaveSums new.found stage.unknown stage.upper.items stage.lower.items → AreWhole new.found (new.stages.items ++ stage ∷ []) × (unknowns_of (new.stages.items ++ stage ∷ []) ≡ new.unknowns.items)
stages_next width rows stage old mid new u c k parted found unknowns stages g sums =
    let us = unknowns_of old.stages.items in
    let here = subst (λ (ns : List ℕ). IsWhole new.found ns stage) (sym k.unknowns) (stage_whole width rows stage old mid new u c parted found unknowns g sums) in
    let fresh = λ (row : Inequality) (h : Contains new.found row). elim (next_fresh stage.unknown old mid new found unknowns g row h) as (λ _. Contains old.found row ⊎ IsWithout us row) [
      | inl o ↦ inl o
      | inr w ↦ inr (subst (λ (ns : List ℕ). IsWithout ns row) (sym k.unknowns) (without_others old.unknowns.items stage.unknown row w))
    ] in
    let stayed = whole_stays old.found new.found old.stages.items (next_keeps old mid new found g) fresh k.whole in (
      subst (λ (ss : List Stage). AreWhole new.found (ss ++ stage ∷ [])) (sym stages) (whole_push new.found old.stages.items stage stayed here),
      map-append (λ (s : Stage). s.unknown) new.stages.items (stage ∷ []) ∙ ap (λ (ns : List ℕ). ns ++ stage.unknown ∷ []) (ap unknowns_of stages ∙ k.unknowns) ∙ sym unknowns ∙ sym g.unknowns,
    )

-- all stages, where no unknown is left
pub all_stages : (width : ℕ) (rows : List Inequality) (elimination : Elimination) → IsUnderWay width rows elimination → IsCaughtUp width rows elimination → KeepsStages elimination → NoneIsLeft width elimination.live.items → HasAllStages width rows elimination.stages.items
all_stages width rows elimination u c k left = record {
  found = elimination.found;
  within = u.within;
  begins = c.begins;
  same_width = u.are_found.same_width;
  sound = u.are_found.sound;
  whole = k.whole;
  different = subst (λ (us : List ℕ). AllPairs (λ a b. a ≢ b) us) (sym k.unknowns) c.different;
  no_unknown_left = λ row h w. none_left width rows elimination u c left row h (subst (λ (us : List ℕ). IsWithout us row) k.unknowns w);
  of_stages = u.stages;
  elimination = subst (λ (us : List ℕ). IsElimination width rows us us elimination.found) (sym k.unknowns) (eliminated width rows elimination u c);
}
