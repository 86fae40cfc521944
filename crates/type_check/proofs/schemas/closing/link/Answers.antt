use Rattle.std.proofs.Common.{◌+◌, List, [], ◌∷◌, ◌++◌, ap, subst, length, take, refl, sym, ◌∙◌}
use Rattle.std.proofs.lemmas.List.{take_all}
use Rattle.std.proofs.lemmas.Option.{slice_get_read}
use Rattle.type_check.specs.Closed.{Links}
use Rattle.type_check.specs.Known.{IsKeyed, listed}
use Rattle.type_check.specs.declared.schemas.known.KnownInstances.{KnownInstances}
use Rattle.base.specs.declared.marked_cycles.edge.MarkedEdge.{MarkedEdge}
use Rattle.type_check.proofs.LinkLaws.{links_more, links_none, links_same, links_skip}
use Rattle.type_check.proofs.SchemasLists.{take_next}
use Rattle.type_check.proofs.schemas.closing.link.Goals as goal
use Rattle.type_check.proofs.schemas.closing.link.Goals.{in-Some+in_ok-to+in_ok-push, in_default}

pub loop-one-init : goal.loop-one-init
loop-one-init c = record { keyed = c.requires; links = links_none (listed c.args.known.now) c.args.edges.now.items c.args.number }

pub put-requires : goal.put-requires
put-requires c = c.loop-one.invariant.keyed

pub loop-one-preserved : goal.loop-one-preserved
loop-one-preserved c =
    let n = c.loop-one.one-index in
    let js = c.args.judged.now in
    let one = c.one-item.result in
    let next = sym (take_next js n one (slice_get_read js (length js) n one refl c.loop-one-test.true c.one-item.is)) in
    let old = listed c.args.known.now in
    let before = c.args.edges.now.items in
    let links = c.loop-one.invariant.links in
    elim c.match-one.branch [
      | in-Some+in_ok-to+in_ok-push w ↦ record {
        keyed = subst (λ (k : KnownInstances). IsKeyed k) (sym w.known-is) w.in_ok-to.ensures.keyed;
        links = subst (λ (k : KnownInstances). Links old (listed k) before c.match-one.edges.items c.args.number (take (n + 1) js)) (sym w.known-is)
            (links_same old _ before c.match-one.edges.items c.args.number (take n js ++ one ∷ []) (take (n + 1) js) next
            (links_more old before c.args.number (take n js) one (listed c.loop-one.known) (listed w.put.new.known) c.loop-one.edges.items c.match-one.edges.items w.in-Some.instance w.in_ok-to.to w.in-Some.is
            w.in_ok-to.ensures.put (ap (λ (v : _). v.items) w.edges-is ∙ w.in_ok-push.ensures.items) links));
      }
      | in_default w ↦ record {
        keyed = subst (λ (k : KnownInstances). IsKeyed k) (sym w.known-is) c.loop-one.invariant.keyed;
        links = subst (λ (k : KnownInstances). Links old (listed k) before c.match-one.edges.items c.args.number (take (n + 1) js)) (sym w.known-is)
            (subst (λ (es : List MarkedEdge). Links old (listed c.loop-one.known) before es c.args.number (take (n + 1) js)) (sym (ap (λ (v : _). v.items) w.edges-is))
            (links_same old (listed c.loop-one.known) before c.loop-one.edges.items c.args.number (take n js ++ one ∷ []) (take (n + 1) js) next
            (links_skip old before c.args.number (take n js) one (listed c.loop-one.known) c.loop-one.edges.items w.in_default.is links)));
      }
    ]

pub returns-clause-keyed : goal.returns-clause-keyed
returns-clause-keyed c = c.loop-one.invariant.keyed

pub returns-clause-links : goal.returns-clause-links
returns-clause-links c =
    links_same (listed c.args.known.now) (listed c.loop-one.known) c.args.edges.now.items c.loop-one.edges.items c.args.number _ c.args.judged.now
    (take_all c.loop-one.one-index c.args.judged.now c.loop-one-test.false) c.loop-one.invariant.links
