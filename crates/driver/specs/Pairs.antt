-- Lists extended by what belongs to the items of another list.
use Rattle.std.specs.Prelude.{◌≡◌, List, ◌++◌}
use Rattle.base.specs.Pairs.{Paired}

-- After the earlier items there is now, for each of these, one that belongs to it.
pub record ArePutBehind {A B : Type 0} (R : A → B → Type 0) (xs : List A) (before after : List B) : Type 0 where
  pub found : List B
  pub after_is : after ≡ before ++ found
  pub paired : Paired R xs found
