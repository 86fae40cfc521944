use Rattle.std.proofs.Common.{◌≡◌, ◌+◌, ◌-◌, ◌<◌, ◌&&◌, ◌↔◌, ℕ, Bool, eqb, ltb, List, length, take, drop, ◌++◌, subst, sym, ap, ◌∙◌, arith}
use Rattle.std.specs.Prelude.{slice_index_or}
use Rattle.std.proofs.lemmas.List.{get_or_default}
use Rattle.typing_rules.specs.Pieces.{pieces}
use Rattle.typing_rules.specs.LocalRules.{BodyFacts, Comes}
use Rattle.definite_assignment.specs.declared.outcome.Ends.{Ends}
use Rattle.definite_assignment.specs.LocalEffects.{same}
use Rattle.definite_assignment.specs.Summaries.{AllStand}
use Rattle.definite_assignment.specs.Views.{is_in}
use Rattle.definite_assignment.proofs.PassLaws.{pieces-length}
use Rattle.definite_assignment.specs.Entries.{entries}
use Rattle.definite_assignment.specs.Tables.{nowhere, begun, Gains}
use Rattle.definite_assignment.proofs.Passing.{Known, KnownState, one_less, one_more, known_at_end, at_end_known, known_all, below_more}
use Rattle.definite_assignment.proofs.Tabled.{written_back}
use Rattle.definite_assignment.proofs.points.states_from.Goals as goal

pub loop-index-init : goal.loop-index-init
loop-index-init c =
    let body : BodyFacts = record { types = c.args.types.now; parameters = c.args.parameters; nodes = c.args.body.now.nodes } in
    let table = c.in_ok-table.table.items in
    let count = c.len-index.result in
    let begins : (i n : ℕ) (state : Bool) → i < 64 → begun table i n state ≡ (eqb (n + 1) (length body.nodes) && same (ltb (c.args.base + i) c.args.parameters) state) = λ i n state h.
    c.in_ok-table.ensures.each i n state h ∙ ap (λ (m : ℕ). eqb (n + 1) m && same (ltb (c.args.base + i) c.args.parameters) state) c.len.ensures in
    record {
      same = c.in_ok-table.ensures.same_length ∙ c.len.ensures;
      known = λ i n state h.
          subst (λ (m : ℕ). Known (c.args.base + i) (begun table i) (pieces body.types body.nodes) m n state ↔ Comes body (c.args.base + i) n state) (sym c.len-index.ensures)
          (known_at_end body (c.args.base + i) (begun table i) (λ m s. begins i m s h) n state, at_end_known body (c.args.base + i) (begun table i) (λ m s. begins i m s h) n state);
    }

pub enter_parts-requires-clause-within : goal.enter_parts-requires-clause-within
enter_parts-requires-clause-within c =
    let types = c.args.types.now in
    let nodes = c.args.body.now.nodes in
    let count : length c.deref.result.now ≡ length nodes = ap length c.deref.ensures.value ∙ c.in_ok-summaries.ensures.same ∙ pieces-length types nodes in
    below_more (c.loop-index.index - 1) (length c.deref.result.now) c.node.result.now (omega arith) c.node.ensures.below

pub enter_parts-requires-clause-same : goal.enter_parts-requires-clause-same
enter_parts-requires-clause-same c =
    let types = c.args.types.now in
    let nodes = c.args.body.now.nodes in
    ap length c.deref_mut.ensures.value ∙ c.loop-index.invariant.same ∙ sym (ap length c.deref.ensures.value ∙ c.in_ok-summaries.ensures.same ∙ pieces-length types nodes)

pub loop-index-preserved : goal.loop-index-preserved
loop-index-preserved c =
    let body : BodyFacts = record { types = c.args.types.now; parameters = c.args.parameters; nodes = c.args.body.now.nodes } in
    let base = c.args.base in
    let ps = pieces body.types body.nodes in
    let k = c.loop-index.index - 1 in
    let old = c.loop-index.table.items in
    let new = c.enter_parts.new.table in
    let node = c.node.result.now in
    let from_old : c.deref_mut.result.now ≡ old = c.deref_mut.ensures.value in
    let all = subst (λ ss. AllStand base ss ps) (sym c.deref.ensures.value) c.in_ok-summaries.ensures in
    let gained : (i : ℕ) → i < 64 → Gains i (entries (base + i) ps node (begun old i k)) old new = λ i h.
    let here : is_in c.index-states.result.now ≡ is_in (slice_index_or old k nowhere) = ap is_in (c.index-states.ensures ∙ get_or_default old k c.index-states.result.now nowhere (omega arith)) in
    subst (λ (t : List Ends). Gains i (entries (base + i) ps node (begun old i k)) t new) from_old
    (subst (λ (f : Bool → ℕ → Bool). Gains i (entries (base + i) ps node (λ s. f s i)) c.deref_mut.result.now new) here (c.enter_parts.ensures i base ps h all)) in
    let length_is : length new ≡ length old = (gained 0 (omega arith)).same_length in
    let back : take c.loop-index.table.len (new ++ drop (length new) old) ≡ new = written_back c.loop-index.table.len old new c.loop-index.table.ok.0 length_is in
    let more : c.loop-index.index ≡ k + 1 = omega arith in
    subst (λ (t : List Ends). record {
      same : length t ≡ length body.nodes;
      known : (i n : ℕ) (state : Bool) → i < 64 → Known (base + i) (begun t i) ps k n state ↔ Comes body (base + i) n state;
    }) (sym back)
    (record {
      same = length_is ∙ c.loop-index.invariant.same;
      known = λ i n state h.
          let before = subst (λ (m : ℕ). Known (base + i) (begun old i) ps m n state ↔ Comes body (base + i) n state) more (c.loop-index.invariant.known i n state h) in (
            λ w. before.0 (one_less (base + i) body.types body.nodes k node c.node.ensures.node c.node.ensures.below (begun old i) (begun new i) (gained i h).each n state w),
            λ w. one_more (base + i) body.types body.nodes k node c.node.ensures.node c.node.ensures.below (begun old i) (begun new i) (gained i h).each n state (before.1 w),
          );
    })

pub returns : goal.returns
returns c =
    let body : BodyFacts = record { types = c.args.types.now; parameters = c.args.parameters; nodes = c.args.body.now.nodes } in
    let table = c.loop-index.table.items in
    let ps = pieces body.types body.nodes in
    let e : c.loop-index.index ≡ 0 = omega arith in
    record {
      same_length = c.loop-index.invariant.same;
      each = λ i n state h near.
          let at_start = subst (λ (m : ℕ). Known (c.args.base + i) (begun table i) ps m n state ↔ Comes body (c.args.base + i) n state) e (c.loop-index.invariant.known i n state h) in (
            λ t. at_start.0 (KnownState (omega arith) t),
            λ w. known_all (c.args.base + i) (begun table i) ps n state (at_start.1 w),
          );
    }
