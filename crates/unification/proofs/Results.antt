-- Two facts of what a call gives.
use Rattle.std.proofs.Common.{Ok, Err}
use Rattle.std.specs.Prelude.{Result, IfOk}

pub if_ok_two : {X Y : Type 0} (r : Result X Y) (P Q R : X → Type 0) → ((x : X) → P x → Q x → R x) → IfOk r P → IfOk r Q → IfOk r R
if_ok_two (Ok x) P Q R f p q = f x p q
if_ok_two (Err e) P Q R f p q = tt
