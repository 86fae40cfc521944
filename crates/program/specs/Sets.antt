-- Sets of abilities. Source: The Move Book, "Abilities".
use Rattle.std.specs.Prelude.{true, false, ◌&&◌}
use Rattle.program.specs.declared.declaration.AbilitySet.{AbilitySet}

abbrev pub all_abilities : AbilitySet
all_abilities = record { has_copy = true; has_drop = true; has_store = true; has_key = true }

abbrev pub no_abilities : AbilitySet
no_abilities = record { has_copy = false; has_drop = false; has_store = false; has_key = false }

-- the abilities that are in both sets
abbrev pub both : AbilitySet → AbilitySet → AbilitySet
both a b = record {
  has_copy = a.has_copy && b.has_copy;
  has_drop = a.has_drop && b.has_drop;
  has_store = a.has_store && b.has_store;
  has_key = a.has_key && b.has_key;
}
