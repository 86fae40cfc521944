use Rattle.std.proofs.Common.{◌∷◌, [], List, Bool, get_or, refl, sym, subst, arith}
use Rattle.tableau.specs.declared.log.Change.{Change}
use Rattle.ematching.specs.Numbers.{IsAmong, term_at}
use Rattle.ematching.specs.Fits.{IsFilling, IsFitAnswer, IsGrown}
use Rattle.ematching.specs.Rows.{IsNumbered, IsRow, AreCandidates, patterns_in}
use Rattle.ematching.specs.Joins.{IsReady, AreJoined, AreJoinedAt}
use Rattle.ematching.specs.declared.rows.Row.{Row}
use Rattle.ematching.proofs.ListLemmas.{among_get_or}
use Rattle.ematching.proofs.JoinLemmas.{taken_back, grown_back, on_ok, first_row, rest_rows, by_none, by_more, by_done, join_end, fitted_joined, unfit_joined, still_ready}
use Rattle.ematching.proofs.joins.+join.Goals as goal

pub join-returns-in_default-clause-joined : goal.join-returns-in_default-clause-joined
join-returns-in_default-clause-joined t c =
    on_ok c.add_value.result (λ added b rows. join_end c.args.pool.now c.one_number.ensures b c.args.bound.now c.args.wanted c.requires.wanted c.args.values.now c.requires.filling c.args.rows.now c.in_default.ensures.cases c.args.found.now c.add_value.new.found c.requires.ready added) c.add_value.ensures

pub join-loop-term-init : goal.join-loop-term-init
join-loop-term-init t c = record {
  values = refl;
  joined = λ b rows. by_none c.args.pool.now c.one_number.ensures b c.args.bound.now c.args.wanted.variable c.args.values.now c.in-Some.row.now.pattern (patterns_in c.args.pool.now c.in-Some.rest.now) c.args.found.now c.args.found.now refl;
}

pub join-join_candidate-requires : goal.join-join_candidate-requires
join-join_candidate-requires t c =
    let ns = c.args.pool.now in
    let w = c.args.wanted in
    let is = c.in-Some.ensures.cases.0 in
    let first = first_row (IsNumbered ns) c.args.rows.now c.in-Some.rest.now c.in-Some.row.now is c.requires.rows in
    let among = subst (IsAmong (get_or c.deref-term-items.result.now c.loop-term.term-index 0)) c.deref-term-items.ensures.value (among_get_or c.deref-term-items.result.now c.loop-term.term-index 0 c.loop-term-test.true) in (
      omega (arith, c.decreases, c.in-Some.ensures.cases.1),
      (
        c.requires.wanted,
        (
          first.pattern,
          (
            first.candidates (get_or c.deref-term-items.result.now c.loop-term.term-index 0) among,
            (
              rest_rows (IsNumbered ns) c.args.rows.now c.in-Some.rest.now c.in-Some.row.now is c.requires.rows,
              (
                subst (λ (cs : List Change). IsFilling ns c.args.bound.now cs []) (sym c.loop-term.invariant.values) c.requires.filling,
                subst (λ (cs : List Change). IsReady cs w (term_at ns c.in-Some.row.now.pattern ∷ patterns_in ns c.in-Some.rest.now)) (sym c.loop-term.invariant.values) (subst (λ (rs : List Row). IsReady c.args.values.now w (patterns_in ns rs)) is c.requires.ready),
              ),
            ),
          ),
        ),
      ),
    )

pub join-loop-term-preserved : goal.join-loop-term-preserved
join-loop-term-preserved t c = record {
  values = taken_back c.args.values.now c.join_candidate.new.values c.truncate.new.self c.len-mark.result c.len-mark.ensures (subst (λ (cs : List Change). IsGrown cs c.join_candidate.new.values) c.loop-term.invariant.values c.in_ok-join_candidate.ensures.grown) c.truncate.ensures;
  joined = λ b rows. by_more c.args.pool.now c.one_number.ensures b c.args.bound.now c.args.wanted.variable c.args.values.now c.in-Some.row.now.pattern (patterns_in c.args.pool.now c.in-Some.rest.now) c.args.found.now c.deref-term-items.result.now c.loop-term.term-index c.loop-term-test.true c.loop-term.found c.join_candidate.new.found (c.loop-term.invariant.joined b rows) (subst (λ (cs : List Change). AreJoinedAt c.args.pool.now b c.args.bound.now c.args.wanted.variable cs (record { pattern = c.in-Some.row.now.pattern; term = get_or c.deref-term-items.result.now c.loop-term.term-index 0 }) (patterns_in c.args.pool.now c.in-Some.rest.now) c.loop-term.found c.join_candidate.new.found) c.loop-term.invariant.values (c.in_ok-join_candidate.ensures.joined b rows));
}

pub join-returns-clause-joined : goal.join-returns-clause-joined
join-returns-clause-joined t c = λ b rows.
    let ns = c.args.pool.now in
    let is = c.in-Some.ensures.cases.0 in
    let first = first_row (IsRow ns b c.args.bound.now) c.args.rows.now c.in-Some.rest.now c.in-Some.row.now is rows in
    let candidates = subst (AreCandidates ns b c.args.bound.now c.in-Some.row.now.pattern) (sym c.deref-term-items.ensures.value) first.candidates in
    subst (λ (rs : List Row). AreJoined ns b c.args.bound.now c.args.wanted.variable c.args.values.now (patterns_in ns rs) c.args.found.now c.loop-term.found) (sym is) (by_done ns c.one_number.ensures b c.args.bound.now c.args.wanted.variable c.args.values.now c.in-Some.row.now.pattern (patterns_in ns c.in-Some.rest.now) c.args.found.now c.deref-term-items.result.now c.loop-term.term-index c.loop-term-test.false c.loop-term.found candidates (c.loop-term.invariant.joined b (rest_rows (IsRow ns b c.args.bound.now) c.args.rows.now c.in-Some.rest.now c.in-Some.row.now is rows)))

pub join_candidate-returns-then-not-is_fit : goal.join_candidate-returns-then-not-is_fit
join_candidate-returns-then-not-is_fit t c =
    let unfit = subst (λ (r : Bool). IsFitAnswer c.args.pool.now c.args.bound.now c.args.candidate.pattern c.args.candidate.term c.args.values.now c.fits.new.values r) c.if-not-is_fit.true c.in_ok-is_fit.ensures in
    record {
      grown = unfit.grown;
      joined = λ b rows. record { each = unfit_joined c.args.pool.now c.one_number.ensures b c.args.bound.now c.args.wanted.variable c.args.values.now c.fits.new.values c.args.candidate.pattern c.args.candidate.term c.requires.pattern c.requires.term (patterns_in c.args.pool.now c.args.rest.now) unfit c.args.found.now c.args.found.now refl };
    }

pub join_candidate-join-requires : goal.join_candidate-join-requires
join_candidate-join-requires t c =
    let fit = subst (λ (r : Bool). IsFitAnswer c.args.pool.now c.args.bound.now c.args.candidate.pattern c.args.candidate.term c.args.values.now c.fits.new.values r) c.if-not-is_fit.false c.in_ok-is_fit.ensures in
    (omega (arith, c.decreases), (c.requires.wanted, (c.requires.rest, (fit.answer.filling, still_ready c.args.pool.now c.one_number.ensures c.args.bound.now c.args.wanted c.requires.wanted c.args.values.now c.fits.new.values c.args.candidate.pattern c.args.candidate.term (patterns_in c.args.pool.now c.args.rest.now) c.requires.pattern fit c.requires.ready))))

pub join_candidate-returns-clause-grown : goal.join_candidate-returns-clause-grown
join_candidate-returns-clause-grown t c =
    let fit = subst (λ (r : Bool). IsFitAnswer c.args.pool.now c.args.bound.now c.args.candidate.pattern c.args.candidate.term c.args.values.now c.fits.new.values r) c.if-not-is_fit.false c.in_ok-is_fit.ensures in
    on_ok c.join.result (λ e. grown_back c.args.values.now c.fits.new.values c.join.new.values e fit.grown) c.join.ensures.values

pub join_candidate-returns-clause-joined : goal.join_candidate-returns-clause-joined
join_candidate-returns-clause-joined t c =
    let fit = subst (λ (r : Bool). IsFitAnswer c.args.pool.now c.args.bound.now c.args.candidate.pattern c.args.candidate.term c.args.values.now c.fits.new.values r) c.if-not-is_fit.false c.in_ok-is_fit.ensures in
    on_ok c.join.result (λ h b rows. record { each = fitted_joined c.args.pool.now c.one_number.ensures b c.args.bound.now c.args.wanted.variable c.args.values.now c.fits.new.values c.args.candidate.pattern c.args.candidate.term c.requires.pattern c.requires.term (patterns_in c.args.pool.now c.args.rest.now) fit c.args.found.now c.join.new.found (h b rows) }) c.join.ensures.joined
