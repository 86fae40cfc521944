use Rattle.std.proofs.Common.{arith, ◌<◌, List, ◌∷◌, length, reverse, set, refl, ◌∙◌, ap}
use Rattle.base.specs.declared.cycles.walk.Mark.TheVariants.{Open}
use Rattle.base.specs.declared.cycles.walk.Visit.{Visit}
use Rattle.base.proofs.ReachLemmas.{reverse_push}
use Rattle.base.proofs.WalkLemmas.{walk_root, open_seen, mark_same, seen_set}
use Rattle.base.proofs.cycles.walk.Walk.follow.Goals as goal

pub loop-visit-init : goal.loop-visit-init
loop-visit-init c =
    let graph = c.args.graph.now in
    let marks = c.args.self.now.marks.items in
    let root = c.args.root in
    let first : Visit = record { node = root; next = 0 } in
    let long = c.requires.walk.long in
    let b = c.requires.root in
    let within : root < length marks = omega arith in
    let e = reverse_push c.args.self.now.path.items c.push.new.self.items first c.in_ok-push.ensures.items ∙ ap (λ (p : List Visit). first ∷ reverse p) c.requires.path in
    record {
      walk = walk_root graph marks c.args.self.now.order.items root (reverse c.push.new.self.items) c.requires.root c.requires.unseen c.requires.walk e;
      root = open_seen (set marks root Open) root (mark_same marks root root Open refl within);
      seen = seen_set marks root Open (λ q. cc);
    }
