use Rattle.std.proofs.Common.{ℕ, List}
use Rattle.std.specs.Vec.Iter.{into_iter_items}
use Rattle.base.specs.Names.{IsSetOf}
use Rattle.syntax_tree.specs.Members.{IsSourceMember}
use Rattle.base.proofs.PairLaws.{Reading}
use Rattle.item_parser.proofs.source.module.read_members.Given as goal

abbrev pub invariant-loop-member : goal.invariant-loop-member
invariant-loop-member l = (names : List (List ℕ)) → IsSetOf l.functions names → Reading (IsSourceMember names) l.fn.members.items (into_iter_items l.member-iterator) l.found.items
