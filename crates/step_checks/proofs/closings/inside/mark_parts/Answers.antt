use Rattle.std.proofs.Common.{inl, inr, refl, subst, arith}
use Rattle.step_checks.specs.Inside.{HasRoom}
use Rattle.step_checks.proofs.closings.inside.mark_parts.Goals as goal

pub mark-requires : goal.mark-requires
mark-requires c = (subst (HasRoom c.args.marks.now) c.in-One.is c.requires).each c.in-One.a (inl refl)

pub mark-requires-in-Two : goal.mark-requires-in-Two
mark-requires-in-Two c = (subst (HasRoom c.args.marks.now) c.in-Two.is c.requires).each c.in-Two.a (inl refl)

pub mark-requires-in-Two-2 : goal.mark-requires-in-Two-2
mark-requires-in-Two-2 c =
    let w = (subst (HasRoom c.args.marks.now) c.in-Two.is c.requires).each c.in-Two.b (inr (inl refl)) in
    omega (arith, w, c.mark-in-Two.ensures.as_long)

pub mark-requires-in-Three : goal.mark-requires-in-Three
mark-requires-in-Three c = (subst (HasRoom c.args.marks.now) c.in-Three.is c.requires).each c.in-Three.a (inl refl)

pub mark-requires-in-Three-2 : goal.mark-requires-in-Three-2
mark-requires-in-Three-2 c =
    let w = (subst (HasRoom c.args.marks.now) c.in-Three.is c.requires).each c.in-Three.b (inr (inl refl)) in
    omega (arith, w, c.mark-in-Three.ensures.as_long)

pub mark-requires-in-Three-3 : goal.mark-requires-in-Three-3
mark-requires-in-Three-3 c =
    let w = (subst (HasRoom c.args.marks.now) c.in-Three.is c.requires).each c.in-Three.c (inr (inr (inl refl))) in
    omega (arith, w, c.mark-in-Three.ensures.as_long, c.mark-in-Three-2.ensures.as_long)
