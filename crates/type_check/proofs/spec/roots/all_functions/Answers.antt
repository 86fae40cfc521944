use Rattle.std.proofs.Common.{◌+◌, ◌<◌, ◌≤◌, List, length, take, refl, sym, ◌∙◌, ap, subst, arith}
use Rattle.std.specs.Option.{option_map}
use Rattle.std.specs.Map.Iter.{deref_pair}
use Rattle.std.proofs.lemmas.Option.{slice_get_read}
use Rattle.type_check.specs.declared.clauses.judged.JudgedClause.{JudgedClause}
use Rattle.type_check.specs.Roots.{IsOfFunction, OfSome, TellsOf}
use Rattle.type_check.proofs.SpecFirsts.{nothing_there}
use Rattle.type_check.proofs.RootLaws.{some_all, some_more, some_none, tells_both}
use Rattle.type_check.proofs.spec.roots.all_functions.Goals as goal
use Rattle.type_check.proofs.spec.roots.all_functions.Goals.{in-Some+in_ok-more+in_ok-append, in_default}

pub loop-number-init : goal.loop-number-init
loop-number-init c = some_none c.args.program.now (IsOfFunction c.args.program.now) c.args.program.now.functions c.new-judged.result.items c.new-judged.ensures.items

pub function_clauses-requires-clause-known : goal.function_clauses-requires-clause-known
function_clauses-requires-clause-known c =
    let known = c.args.known.now in
    let n = c.loop-number.number in
    let at = slice_get_read known (length known) n c.index-known-number.result refl c.loop-number-test.true c.index-known-number.is in
    c.requires.known.each n _ at _ c.in-Some.function.now (sym c.in-Some.ensures)

pub loop-number-preserved : goal.loop-number-preserved
loop-number-preserved c =
    let program = c.args.program.now in
    let n = c.loop-number.number in
    let below : n < length program.functions = (let t = c.loop-number-test.true in let is = c.requires.known.same_length in omega (arith, t, is)) in
    elim c.match-entry.branch [
      | in-Some+in_ok-more+in_ok-append w ↦
          subst (λ (js : List JudgedClause). TellsOf program (OfSome (IsOfFunction program) (take (n + 1) program.functions)) js) (sym (ap (λ v. v.items) w.judged-is ∙ w.in_ok-append.ensures.items))
          (some_more program (IsOfFunction program) program.functions n _ _ (sym w.in-Some.ensures)
          (tells_both program (OfSome (IsOfFunction program) (take n program.functions)) (IsOfFunction program w.in-Some.function.now) c.loop-number.judged.items w.in_ok-more.more.items c.loop-number.invariant
          w.in_ok-more.ensures))
      | in_default w ↦ absurd (nothing_there program.functions n below (sym (ap (option_map deref_pair) w.in_default.is) ∙ c.entry.ensures))
    ]

pub returns : goal.returns
returns c =
    let program = c.args.program.now in
    let past : length program.functions ≤ c.loop-number.number = (let t = c.loop-number-test.false in let is = c.requires.known.same_length in omega (arith, t, is)) in
    some_all program (IsOfFunction program) program.functions c.loop-number.number c.loop-number.judged.items past c.loop-number.invariant
