use Rattle.axiom_strategy.proofs.askers.instances_of.Goals as goal

pub returns-in-Always-clause-all : goal.returns-in-Always-clause-all
returns-in-Always-clause-all c = rw c.in-Always.is c.always_triggered.ensures.all

pub returns-in-Term-clause-all : goal.returns-in-Term-clause-all
returns-in-Term-clause-all c = rw c.in-Term.is c.axioms_of_term.ensures.all

pub axioms_of_typed_term-requires-clause-of : goal.axioms_of_typed_term-requires-clause-of
axioms_of_typed_term-requires-clause-of c = let h = rw c.in-Typing.is at c.requires.asker in h.of

pub axioms_of_typed_term-requires-clause-term : goal.axioms_of_typed_term-requires-clause-term
axioms_of_typed_term-requires-clause-term c = let h = rw c.in-Typing.is at c.requires.asker in h.term

pub returns-in-Typing-clause-all : goal.returns-in-Typing-clause-all
returns-in-Typing-clause-all c = rw c.in-Typing.is c.axioms_of_typed_term.ensures.all

pub axioms_of_type-requires : goal.axioms_of_type-requires
axioms_of_type-requires c = rw c.in-TypeAlone.is at c.requires.asker

pub returns-in-TypeAlone-clause-all : goal.returns-in-TypeAlone-clause-all
returns-in-TypeAlone-clause-all c = rw c.in-TypeAlone.is c.axioms_of_type.ensures.all

pub returns-in-Beside-clause-all : goal.returns-in-Beside-clause-all
returns-in-Beside-clause-all c = rw c.in-Beside.is c.axioms_of_type_beside.ensures.all

pub axioms_of_read-requires : goal.axioms_of_read-requires
axioms_of_read-requires c = let h = rw c.in-Read.is at c.requires.asker in h.second

pub returns-in-Read-clause-all : goal.returns-in-Read-clause-all
returns-in-Read-clause-all c = rw c.in-Read.is c.axioms_of_read.ensures.all

pub axioms_of_item-requires-clause-vector : goal.axioms_of_item-requires-clause-vector
axioms_of_item-requires-clause-vector c = let h = rw c.in-Item.is at c.requires.asker in h.first

pub axioms_of_item-requires-clause-position : goal.axioms_of_item-requires-clause-position
axioms_of_item-requires-clause-position c = let h = rw c.in-Item.is at c.requires.asker in h.second

pub returns-in-Item-clause-all : goal.returns-in-Item-clause-all
returns-in-Item-clause-all c = rw c.in-Item.is c.axioms_of_item.ensures.all

pub axioms_of_vectors-requires-clause-vector : goal.axioms_of_vectors-requires-clause-vector
axioms_of_vectors-requires-clause-vector c = let h = rw c.in-Vectors.is at c.requires.asker in h.first

pub axioms_of_vectors-requires-clause-other : goal.axioms_of_vectors-requires-clause-other
axioms_of_vectors-requires-clause-other c = let h = rw c.in-Vectors.is at c.requires.asker in h.second

pub returns-in-Vectors-clause-all : goal.returns-in-Vectors-clause-all
returns-in-Vectors-clause-all c = rw c.in-Vectors.is c.axioms_of_vectors.ensures.all
