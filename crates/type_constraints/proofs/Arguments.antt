-- Written type arguments as a list.
use Rattle.std.proofs.Common.{◌≡◌, List}
use Rattle.base.specs.TypeData.{TypeData, list_of_types, types_of, list_of_types-types_of}

pub listed_types : (ts : List TypeData) → list_of_types (types_of ts) ≡ ts
listed_types ts = list_of_types-types_of ts
