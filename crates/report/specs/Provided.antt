-- The files that a source has provided. They take no memory: only contracts speak of them.
use Rattle.std.specs.Prelude.{◌≡◌, ℕ, List, ◌++◌, length}
use Rattle.std.specs.List.{zip}

-- the names and the bytes of files, in the order in which they were provided
abbrev pub ProvidedFiles : Type 0
ProvidedFiles = List (List ℕ × List ℕ)

-- Between the first and the second of these lists exactly the files with these names and these bytes were provided, in
-- this order.
pub record AreProvided (before after : ProvidedFiles) (names files : List (List ℕ)) : Type 0 where
  pub count : length files ≡ length names
  pub after_is : after ≡ before ++ zip names files
