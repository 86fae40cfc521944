-- Where a function can be called. Source: The Move Book, "Functions", on visibility, and "Friends".
use Rattle.std.specs.Prelude.{◌≡◌, ◌⊎◌, List, Contains}
use Rattle.program.specs.declared.declaration.Visibility.{Visibility}
use Rattle.program.specs.declared.declaration.Visibility.TheVariants.{Private, Friend, Public}
use Rattle.program.specs.declared.program.ModuleId.{ModuleId}

-- a function of the module `owner` can be called in the module `from`: a private one in its own module; a friend one
-- also in the friends of its module; a public one everywhere
abbrev pub MayCall : ModuleId → ModuleId → Visibility → List ModuleId → Type 0
MayCall from owner Private friends = from ≡ owner
MayCall from owner Friend friends = (from ≡ owner) ⊎ Contains friends from
MayCall from owner Public friends = Unit {0}
