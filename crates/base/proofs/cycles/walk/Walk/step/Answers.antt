use Rattle.std.proofs.Common.{rules, arith, ◌≡◌, ℕ, ◌<◌, ◌≤◌, ◌+◌, List, [], ◌∷◌, length, reverse, get_or, sym, ◌∙◌, ap, subst}
use Rattle.std.proofs.lemmas.List.{get_or_read}
use Rattle.base.specs.declared.cycles.walk.Mark.TheVariants.{Unseen}
use Rattle.base.specs.declared.cycles.walk.Visit.{Visit}
use Rattle.base.specs.Walking.{mark, IsSeen}
use Rattle.base.proofs.WalkLemmas.{step_within, finish_walk, finish_less, advance_walk, advance_less, enter_walk, enter_less}
use Rattle.base.proofs.ReachLemmas.{reverse_push, targets_are, target_within}
use Rattle.base.proofs.cycles.walk.Walk.step.Goals as goal

pub returns-then-visit-targets-clause-walk : goal.returns-then-visit-targets-clause-walk
returns-then-visit-targets-clause-walk c =
    let w = c.requires.walk in
    let marks = c.args.self.now.marks.items in
    let order = c.args.self.now.order.items in
    let path = reverse c.args.self.now.path.items in
    let long = w.long in
    let within = step_within c.args.graph.now marks order c.args.visit path w in
    let b : c.args.visit.node < length c.args.graph.now = omega arith in
    let t = targets_are c.args.graph.now c.args.visit.node c.index-graph-visit.result c.as_slice-targets.result.now b c.index-graph-visit.is c.as_slice-targets.ensures in
    let q = ap (λ (xs : List ℕ). length xs) t in
    let l : length (get_or c.args.graph.now c.args.visit.node []) ≤ c.args.visit.next = omega arith in
    let n : c.len.result ≡ length order = search rules in
    finish_walk c.args.graph.now marks order c.args.visit path w c.len.result c.push.new.self.items l n c.in_ok-push.ensures.items

pub returns-then-visit-targets-clause-less : goal.returns-then-visit-targets-clause-less
returns-then-visit-targets-clause-less c =
    finish_less c.args.graph.now c.args.self.now.marks.items c.args.self.now.order.items c.args.visit (reverse c.args.self.now.path.items) c.requires.walk c.len.result

pub index-requires : goal.index-requires
index-requires c =
    let w = c.requires.walk in
    let marks = c.args.self.now.marks.items in
    let long = w.long in
    let within = step_within c.args.graph.now marks c.args.self.now.order.items c.args.visit (reverse c.args.self.now.path.items) w in
    let b : c.args.visit.node < length c.args.graph.now = omega arith in
    let t = targets_are c.args.graph.now c.args.visit.node c.index-graph-visit.result c.as_slice-targets.result.now b c.index-graph-visit.is c.as_slice-targets.ensures in
    let l : c.args.visit.next < length c.as_slice-targets.result.now = omega arith in
    let r = target_within c.args.graph.now c.args.visit.node c.args.visit.next c.as_slice-targets.result.now (length marks) c.requires.within t l w.long in
    omega arith

pub index_mut-requires-in-Unseen : goal.index_mut-requires-in-Unseen
index_mut-requires-in-Unseen c =
    let w = c.requires.walk in
    let marks = c.args.self.now.marks.items in
    let long = w.long in
    let within = step_within c.args.graph.now marks c.args.self.now.order.items c.args.visit (reverse c.args.self.now.path.items) w in
    let b : c.args.visit.node < length c.args.graph.now = omega arith in
    let t = targets_are c.args.graph.now c.args.visit.node c.index-graph-visit.result c.as_slice-targets.result.now b c.index-graph-visit.is c.as_slice-targets.ensures in
    let l : c.args.visit.next < length c.as_slice-targets.result.now = omega arith in
    let r = target_within c.args.graph.now c.args.visit.node c.args.visit.next c.as_slice-targets.result.now (length marks) c.requires.within t l w.long in
    omega arith

pub returns-in_ok-push-3-clause-walk : goal.returns-in_ok-push-3-clause-walk
returns-in_ok-push-3-clause-walk c =
    let w = c.requires.walk in
    let graph = c.args.graph.now in
    let marks = c.args.self.now.marks.items in
    let order = c.args.self.now.order.items in
    let visit = c.args.visit in
    let path = reverse c.args.self.now.path.items in
    let slice = c.as_slice-targets.result.now in
    let long = w.long in
    let inside = step_within graph marks order visit path w in
    let b : c.args.visit.node < length c.args.graph.now = omega arith in
    let t = targets_are graph visit.node c.index-graph-visit.result slice b c.index-graph-visit.is c.as_slice-targets.ensures in
    let q = ap (λ (xs : List ℕ). length xs) t in
    let l : c.args.visit.next < length slice = omega arith in
    let m : c.args.visit.next < length (get_or c.args.graph.now c.args.visit.node []) = omega arith in
    let within = target_within graph visit.node visit.next slice (length marks) c.requires.within t l w.long in
    let same : get_or (get_or graph visit.node []) visit.next 0 ≡ get_or slice visit.next 0 = ap (λ (xs : List ℕ). get_or xs visit.next 0) (sym t) in
    let fresh : mark marks (get_or slice visit.next 0) ≡ Unseen = sym (get_or_read marks (get_or slice visit.next 0) _ within c.index.ensures Unseen) ∙ c.in-Unseen.is in
    let first : Visit = record { node = visit.node; next = visit.next + 1 } in
    let second : Visit = record { node = get_or slice visit.next 0; next = 0 } in
    let e = reverse_push c.push-2.new.self.items c.push-in-Unseen.new.self.items second c.in_ok-push-3.ensures.items ∙ ap (λ (p : List Visit). second ∷ p) (reverse_push c.args.self.now.path.items c.push-2.new.self.items first c.in_ok-push-2.ensures.items) in
    enter_walk graph marks order visit path w (get_or slice visit.next 0) (reverse c.push-in-Unseen.new.self.items) m same within fresh e

pub returns-in_ok-push-3-clause-less : goal.returns-in_ok-push-3-clause-less
returns-in_ok-push-3-clause-less c =
    let w = c.requires.walk in
    let graph = c.args.graph.now in
    let marks = c.args.self.now.marks.items in
    let order = c.args.self.now.order.items in
    let visit = c.args.visit in
    let path = reverse c.args.self.now.path.items in
    let slice = c.as_slice-targets.result.now in
    let long = w.long in
    let inside = step_within graph marks order visit path w in
    let b : c.args.visit.node < length c.args.graph.now = omega arith in
    let t = targets_are graph visit.node c.index-graph-visit.result slice b c.index-graph-visit.is c.as_slice-targets.ensures in
    let q = ap (λ (xs : List ℕ). length xs) t in
    let l : c.args.visit.next < length slice = omega arith in
    let m : c.args.visit.next < length (get_or c.args.graph.now c.args.visit.node []) = omega arith in
    let within = target_within graph visit.node visit.next slice (length marks) c.requires.within t l w.long in
    let fresh : mark marks (get_or slice visit.next 0) ≡ Unseen = sym (get_or_read marks (get_or slice visit.next 0) _ within c.index.ensures Unseen) ∙ c.in-Unseen.is in
    let first : Visit = record { node = visit.node; next = visit.next + 1 } in
    let second : Visit = record { node = get_or slice visit.next 0; next = 0 } in
    let e = reverse_push c.push-2.new.self.items c.push-in-Unseen.new.self.items second c.in_ok-push-3.ensures.items ∙ ap (λ (p : List Visit). second ∷ p) (reverse_push c.args.self.now.path.items c.push-2.new.self.items first c.in_ok-push-2.ensures.items) in
    enter_less graph marks order visit path w (get_or slice visit.next 0) (reverse c.push-in-Unseen.new.self.items) m within fresh e

pub returns-in_default : goal.returns-in_default
returns-in_default c =
    let w = c.requires.walk in
    let graph = c.args.graph.now in
    let marks = c.args.self.now.marks.items in
    let order = c.args.self.now.order.items in
    let visit = c.args.visit in
    let path = reverse c.args.self.now.path.items in
    let slice = c.as_slice-targets.result.now in
    let long = w.long in
    let inside = step_within graph marks order visit path w in
    let b : c.args.visit.node < length c.args.graph.now = omega arith in
    let t = targets_are graph visit.node c.index-graph-visit.result slice b c.index-graph-visit.is c.as_slice-targets.ensures in
    let q = ap (λ (xs : List ℕ). length xs) t in
    let l : c.args.visit.next < length slice = omega arith in
    let m : c.args.visit.next < length (get_or c.args.graph.now c.args.visit.node []) = omega arith in
    let within = target_within graph visit.node visit.next slice (length marks) c.requires.within t l w.long in
    let same : get_or (get_or graph visit.node []) visit.next 0 ≡ get_or slice visit.next 0 = ap (λ (xs : List ℕ). get_or xs visit.next 0) (sym t) in
    let known : IsSeen marks (get_or slice visit.next 0) = (λ u. c.in_default.not-Unseen (get_or_read marks (get_or slice visit.next 0) _ within c.index.ensures Unseen ∙ u)) in
    let s : IsSeen marks (get_or (get_or graph visit.node []) visit.next 0) = subst (λ (x : ℕ). IsSeen marks x) (sym same) known in
    let first : Visit = record { node = visit.node; next = visit.next + 1 } in
    let e = reverse_push c.args.self.now.path.items c.push-2.new.self.items first c.in_ok-push-2.ensures.items in
    record {
      walk = advance_walk graph marks order visit path w (reverse c.push-2.new.self.items) s e;
      seen = λ i h. h;
      less = advance_less graph marks order visit path w (reverse c.push-2.new.self.items) m e;
    }
