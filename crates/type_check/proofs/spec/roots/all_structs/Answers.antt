use Rattle.std.proofs.Common.{◌+◌, ◌<◌, ◌≤◌, List, length, take, sym, ◌∙◌, ap, subst, arith}
use Rattle.std.specs.Option.{option_map}
use Rattle.std.specs.Map.Iter.{deref_pair}
use Rattle.base.specs.TypeData.{NoTypes}
use Rattle.program.specs.declared.clause.Clause.{Clause}
use Rattle.typing_rules.specs.Clauses as C
use Rattle.type_check.specs.Judged.{OwnerSays}
use Rattle.type_check.specs.declared.clauses.judged.JudgedClause.{JudgedClause}
use Rattle.type_check.specs.Roots.{IsOfStruct, OfSome, TellsOf}
use Rattle.type_check.proofs.SpecFirsts.{nothing_there}
use Rattle.type_check.proofs.RootLaws.{owner_tells, some_all, some_more, some_none, tells_both}
use Rattle.type_check.proofs.spec.roots.all_structs.Goals as goal
use Rattle.type_check.proofs.spec.roots.all_structs.Goals.{in-Some+in_ok-more+in_ok-append, in_default}

pub loop-number-init : goal.loop-number-init
loop-number-init c = some_none c.args.program.now (IsOfStruct c.args.program.now) c.args.program.now.structs c.new-judged.result.items c.new-judged.ensures.items

pub loop-number-preserved : goal.loop-number-preserved
loop-number-preserved c =
    let program = c.args.program.now in
    let n = c.loop-number.number in
    let below : n < length program.structs = (let t = c.loop-number-test.true in let is = c.len-number-end.ensures in omega (arith, t, is)) in
    elim c.match-entry.branch [
      | in-Some+in_ok-more+in_ok-append w ↦
          subst (λ (js : List JudgedClause). TellsOf program (OfSome (IsOfStruct program) (take (n + 1) program.structs)) js) (sym (ap (λ v. v.items) w.judged-is ∙ w.in_ok-append.ensures.items))
          (some_more program (IsOfStruct program) program.structs n _ _ (sym w.in-Some.ensures)
          (tells_both program (OfSome (IsOfStruct program) (take n program.structs)) (IsOfStruct program w.in-Some.declared.now) c.loop-number.judged.items w.in_ok-more.more.items c.loop-number.invariant
          (owner_tells program C.StructBlock (C.struct_names w.in-Some.declared.now) w.in-Some.declared.now.clauses w.in_ok-more.more.items
          (subst (λ (cs : List Clause). OwnerSays program (C.struct_names w.in-Some.declared.now) C.StructBlock NoTypes cs w.in_ok-more.more.items) w.as_slice-clauses.ensures w.in_ok-more.ensures))))
      | in_default w ↦ absurd (nothing_there program.structs n below (sym (ap (option_map deref_pair) w.in_default.is) ∙ c.entry.ensures))
    ]

pub returns : goal.returns
returns c =
    let program = c.args.program.now in
    let past : length program.structs ≤ c.loop-number.number = (let t = c.loop-number-test.false in let is = c.len-number-end.ensures in omega (arith, t, is)) in
    some_all program (IsOfStruct program) program.structs c.loop-number.number c.loop-number.judged.items past c.loop-number.invariant
