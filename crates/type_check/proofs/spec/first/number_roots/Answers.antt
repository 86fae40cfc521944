use Rattle.std.proofs.Common.{ℕ, length, refl, subst, arith}
use Rattle.std.proofs.lemmas.Option.{slice_get_read}
use Rattle.type_check.specs.Known.{listed}
use Rattle.type_check.specs.Numbered.{AreNumbered}
use Rattle.type_check.proofs.NumberLaws.{more_numbered, none_numbered}
use Rattle.type_check.proofs.spec.first.number_roots.Goals as goal

pub loop-one-init : goal.loop-one-init
loop-one-init c = record {
  keyed = c.no_instances-known.ensures.keyed;
  numbered = none_numbered c.args.judged.now (listed c.no_instances-known.result) c.new-roots.result.items c.no_instances-known.ensures.none c.new-roots.ensures.items;
}

pub number_of-requires : goal.number_of-requires
number_of-requires c = c.loop-one.invariant.keyed

pub loop-one-preserved : goal.loop-one-preserved
loop-one-preserved c =
    let n = c.loop-one.one-index in
    let number = c.in_ok-included.ensures.number in
    record {
      keyed = c.in_ok-included.ensures.keyed;
      numbered = more_numbered c.args.judged.now (listed c.loop-one.known) (listed c.number_of.new.known) c.loop-one.roots.items c.push.new.self.items n c.one-item.result _ c.in_ok-included.included
          (slice_get_read c.args.judged.now (length c.args.judged.now) n c.one-item.result refl c.loop-one-test.true c.one-item.is)
          c.loop-one.invariant.numbered number (record { span = refl; untyped = refl; unsettled = refl; included = number.stands }) c.in_ok-push.ensures.items;
    }

pub returns-clause-keyed : goal.returns-clause-keyed
returns-clause-keyed c = c.loop-one.invariant.keyed

pub returns-clause-numbered : goal.returns-clause-numbered
returns-clause-numbered c =
    let past = c.loop-one-test.false in
    let bound = c.loop-one.auto.one-index-end in
    subst (λ (n : ℕ). AreNumbered (listed c.loop-one.known) c.args.judged.now c.loop-one.roots.items n) (omega (arith, past, bound)) c.loop-one.invariant.numbered
