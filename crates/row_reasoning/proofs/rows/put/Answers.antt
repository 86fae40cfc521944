use Rattle.std.proofs.Common.{◌≡◌, ◌++◌, ◌∷◌, [], refl, arith}
use mir.Val.{SFits}
use mir.Syntax.{w128}
use Rattle.std.proofs.lemmas.Int.{to_z-of_z}
use Rattle.std.specs.Prelude.{slice_set}
use Rattle.row_reasoning.proofs.PutLemmas.{put_there, put_behind}
use Rattle.row_reasoning.proofs.rows.put.Goals as goal

pub returns-then-position-len : goal.returns-then-position-len
returns-then-position-len c =
    let n : SFits w128 c.args.number = c.ranges.number in
    let e = c.in_ok-position.ensures in
    simp to_z-of_z (put_there c.args.classes.now.keys c.insert_full.new.self.keys c.args.numbers.now.items (slice_set c.args.numbers.now.items c.in_ok-position.position c.args.number) c.args.class c.in_ok-position.position c.args.number e.keys e.unique e.stored.0 e.stored.1 e.stored.2 c.requires (omega (arith, c.len.ensures, c.args.numbers.now.ok.0)) refl)

pub returns : goal.returns
returns c =
    let n : SFits w128 c.args.number = c.ranges.number in
    let e = c.in_ok-position.ensures in
    let is : c.push.new.self.items ≡ c.args.numbers.now.items ++ c.args.number ∷ [] = simp to_z-of_z at c.in_ok-push.ensures.items in
    put_behind c.args.classes.now.keys c.insert_full.new.self.keys c.args.numbers.now.items c.push.new.self.items c.args.class c.in_ok-position.position c.args.number e.keys e.unique e.stored.0 e.stored.1 e.stored.2 c.requires (omega (arith, c.len.ensures, c.args.numbers.now.ok.0)) is
