-- The spec blocks of the loops in a member, and the tree of each.
-- Source: the Move Specification Language reference, "Invariants", on loops.
use Rattle.std.specs.Prelude.{List, [], ◌∷◌, Some, None}
use Rattle.std.specs.List.{flat_map}
use Rattle.syntax_tree.specs.declared.spec_tokens.KeptSpec.{KeptSpec}
use Rattle.syntax_tree.specs.ExpressionData.{BlockData, BlockOf}
use Rattle.syntax_tree.specs.declared.member.MemberForm.{MemberForm}
use Rattle.syntax_tree.specs.declared.member.MemberForm.TheVariants.{Use, Friend, Struct, Constant, Function, Spec}
use Rattle.syntax_tree.specs.declared.slot.Slot.TheVariants.{Loop}
use Rattle.syntax_tree.specs.declared.clause.Spec.{Spec as SpecTree}
use Rattle.syntax_tree.specs.DenotedClauses.{IsSpecBlockOf}
use Rattle.syntax_tree.specs.Blocks.{blocks_of, blocks_of_block}

-- the blocks of Move code in a member, each before those in it
abbrev pub blocks_of_form : MemberForm → List BlockData
blocks_of_form (Use u) = []
blocks_of_form (Friend f) = []
blocks_of_form (Struct s) = []
blocks_of_form (Constant c) = blocks_of c.value
blocks_of_form (Function f) = blocks_of_block f.body
blocks_of_form (Spec s) = []

-- the spec block of a block, if it has one
abbrev pub spec_of_block : BlockData → List KeptSpec
spec_of_block (BlockOf span None items value) = []
spec_of_block (BlockOf span (Some spec) items value) = spec ∷ []

-- the spec blocks of the loops in a member, in the order of the blocks
abbrev pub loop_specs : MemberForm → List KeptSpec
loop_specs form = flat_map spec_of_block (blocks_of_form form)

-- the tokens of a loop's spec block denote this tree
abbrev pub IsLoopTree : KeptSpec → SpecTree → Type 0
IsLoopTree kept tree = IsSpecBlockOf Loop tree kept.tokens
