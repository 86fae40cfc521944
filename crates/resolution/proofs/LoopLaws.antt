-- The clauses of loops, one after another.
use Rattle.std.proofs.Common.{◌≡◌, ◌⊎◌, inl, inr, ℕ, ◌+◌, ◌<◌, ◌≤◌, Bool, true, false, List, [], ◌∷◌, ◌++◌, length, map, get_or, take, drop, zip, flat_map, if◌then◌else◌, refl, sym, ap, subst, ◌∙◌, arith, append-nil, append_assoc}
use Rattle.std.proofs.lemmas.Grind.{flat_map-append}
use Rattle.std.proofs.lemmas.List.{map-append}
use Rattle.base.specs.declared.span.Span.{Span}
use Rattle.base.specs.Pairs.{Paired}
use Rattle.syntax_tree.specs.declared.member.Function.{Function as FunctionTree}
use Rattle.syntax_tree.specs.declared.clause.Clause.{Clause as ClauseTree}
use Rattle.syntax_tree.specs.declared.clause.Spec.{Spec as SpecTree}
use Rattle.base.specs.TypeData.{TypeData}
use Rattle.program.specs.declared.clause.Clause.{Clause}
use Rattle.program.specs.declared.clause.LoopClause.{LoopClause}
use Rattle.body_names.specs.declared.spec.outer.OuterName.{OuterName}
use Rattle.resolution.specs.Around.{around_loop}
use Rattle.resolution.specs.ClauseForms.{HasUnknown, IsClauseOf, is_clause}
use Rattle.resolution.specs.Clauses.{PlacedClause, placed, placed_one}
use Rattle.resolution.specs.Setting.{ClauseScope}
use Rattle.body_names.specs.declared.code.loops.LoopScope.{LoopScope}
use Rattle.resolution.specs.Faults.{IsFaultAmong, fault_at}
use Rattle.resolution.specs.Items.{AreKnown, Here, HasUnknownInOne, LoopItem, around_loop_of, function_scope}
use Rattle.resolution.specs.LoopParts.{AddedLoops, AddedOne}
use Rattle.resolution.specs.Owners.{outcome_of, placed_in}
use Rattle.resolution.specs.Programs.{IsClauseAt, IsLoopClauseOf, loop_source, sources_of_loop}
use Rattle.std.proofs.Math.ListN.{drop_of_length-le}
use Rattle.syntax_tree.specs.Spans.{spec_span}
use Rattle.scopes.specs.Meanings.{IfUnknown}
use Rattle.scopes.specs.declared.fault.NameFault.{NameFault}
use Rattle.resolution.proofs.ItemLaws.{around_span, drop_one, fault_between, item_fault, known_append, taken_one}
use Rattle.resolution.proofs.KnownLaws.{known_made}
use Rattle.resolution.proofs.TableLaws.{paired_append}

unknown_either : (scope : ClauseScope) (outer : List OuterName) (ts us : List PlacedClause) → HasUnknownInOne scope outer (ts ++ us) → HasUnknownInOne scope outer ts ⊎ HasUnknownInOne scope outer us
unknown_either scope outer [] us h = inr h
unknown_either scope outer (t ∷ ts) us (inl h) = inl (inl h)
unknown_either scope outer (t ∷ ts) us (inr h) = elim (unknown_either scope outer ts us h) [ inl a ↦ inl (inr a) | inr b ↦ inr b ]

unknown_left : (scope : ClauseScope) (outer : List OuterName) (ts us : List PlacedClause) → HasUnknownInOne scope outer ts → HasUnknownInOne scope outer (ts ++ us)
unknown_left scope outer [] us h = absurd h
unknown_left scope outer (t ∷ ts) us (inl h) = inl h
unknown_left scope outer (t ∷ ts) us (inr h) = inr (unknown_left scope outer ts us h)

unknown_right : (scope : ClauseScope) (outer : List OuterName) (ts us : List PlacedClause) → HasUnknownInOne scope outer us → HasUnknownInOne scope outer (ts ++ us)
unknown_right scope outer [] us h = h
unknown_right scope outer (t ∷ ts) us h = inr (unknown_right scope outer ts us h)

-- ---- one block

pub one_none : (scope : ClauseScope) (outer : List OuterName) (at : ℕ) (now : List LoopClause) → AddedOne scope outer at [] now now
one_none scope outer at now = record { more = []; are = tt; all = sym (append-nil now); known = λ h. h }

one_both : (scope : ClauseScope) (outer : List OuterName) (at : ℕ) (ts us : List PlacedClause) (a b c : List LoopClause) → AddedOne scope outer at ts a b → AddedOne scope outer at us b c → AddedOne scope outer at (ts ++ us) a c
one_both scope outer at ts us a b c e g = record {
  more = e.more ++ g.more;
  are = paired_append (IsClauseAt scope outer at) ts us e.more g.more e.are g.are;
  all = g.all ∙ ap (λ xs. xs ++ g.more) e.all ∙ append_assoc a e.more g.more;
  known = λ h. elim (unknown_either scope outer ts us h) [ inl x ↦ e.known x | inr y ↦ g.known y ];
}

-- a clause that is not of a program adds nothing
pub one_skipped : (scope : ClauseScope) (outer : List OuterName) (at : ℕ) (block : Span) (tree : ClauseTree) (now : List LoopClause) → is_clause tree ≡ false → AddedOne scope outer at (placed block (tree ∷ [])) now now
one_skipped scope outer at block tree now e =
    let one : PlacedClause = record { block = block; tree = tree } in
    let none : [] ≡ placed block (tree ∷ []) = sym (ap (λ (b : Bool). (if b then one ∷ [] else []) ++ []) e) in
    subst (λ ts. AddedOne scope outer at ts now now) none (one_none scope outer at now)

one_source : (block : Span) (tree : ClauseTree) → is_clause tree ≡ true → (let one : PlacedClause = record { block = block; tree = tree } in one ∷ []) ≡ placed block (tree ∷ [])
one_source block tree e =
    let one : PlacedClause = record { block = block; tree = tree } in
    sym (ap (λ (b : Bool). (if b then one ∷ [] else []) ++ []) e)

pub one_added : (scope : ClauseScope) (outer : List OuterName) (at : ℕ) (block : Span) (tree : ClauseTree) (old new : List LoopClause) (clause : Clause) → is_clause tree ≡ true → IsClauseOf scope outer block tree clause → (let made : LoopClause = record { at = at; clause = clause } in new ≡ old ++ made ∷ []) → AddedOne scope outer at (placed block (tree ∷ [])) old new
one_added scope outer at block tree old new clause e made all =
    subst (λ ts. AddedOne scope outer at ts old new) (one_source block tree e) (record {
      more = record { at = at; clause = clause } ∷ [];
      are = (record { at_is = refl; is_clause = made }, tt);
      all = all;
      known = λ h. elim h [ inl x ↦ known_made made x | inr y ↦ y ];
    })

pub one_unknown : (scope : ClauseScope) (outer : List OuterName) (block : Span) (tree : ClauseTree) → is_clause tree ≡ true → HasUnknown scope outer tree → HasUnknownInOne scope outer (placed block (tree ∷ []))
one_unknown scope outer block tree e h = subst (λ ts. HasUnknownInOne scope outer ts) (one_source block tree e) (inl h)

-- the clauses of a block, up to an index
pub block_next : (scope : ClauseScope) (outer : List OuterName) (at : ℕ) (block : Span) (trees : List ClauseTree) (i : ℕ) (tree : ClauseTree) (a b c : List LoopClause) → i < length trees → tree ≡ get_or trees i tree → AddedOne scope outer at (placed block (take i trees)) a b → AddedOne scope outer at (placed block (tree ∷ [])) b c → AddedOne scope outer at (placed block (take (i + 1) trees)) a c
block_next scope outer at block trees i tree a b c h e so_far one =
    let both = one_both scope outer at (placed block (take i trees)) (placed block (tree ∷ [])) a b c so_far one in
    subst (λ ts. AddedOne scope outer at ts a c) (sym (flat_map-append (placed_one block) (take i trees) (tree ∷ [])) ∙ ap (placed block) (sym (taken_one trees i tree h e))) both

pub block_unknown : (scope : ClauseScope) (outer : List OuterName) (block : Span) (trees : List ClauseTree) (i : ℕ) (tree : ClauseTree) → i < length trees → tree ≡ get_or trees i tree → HasUnknownInOne scope outer (placed block (tree ∷ [])) → HasUnknownInOne scope outer (placed block trees)
block_unknown scope outer block trees i tree h e u =
    let behind = unknown_left scope outer (placed block (tree ∷ [])) (placed block (drop (i + 1) trees)) u in
    let all = unknown_right scope outer (placed block (take i trees)) (placed block (tree ∷ []) ++ placed block (drop (i + 1) trees)) behind in
    subst (λ ts. HasUnknownInOne scope outer ts)
    (ap (λ ts. placed block (take i trees) ++ ts) (sym (flat_map-append (placed_one block) (tree ∷ []) (drop (i + 1) trees)))
    ∙ sym (flat_map-append (placed_one block) (take i trees) (tree ∷ drop (i + 1) trees)) ∙ ap (placed block) (around_span trees i tree h e)) all

-- ---- all blocks

-- the loops whose clauses are added, and those that remain
pub record LoopsSoFar (scope : ClauseScope) (outcome : TypeData) (all rest : List (LoopScope × SpecTree)) (old now : List LoopClause) : Type 0 where
  pub done : List (LoopScope × SpecTree)
  pub whole : all ≡ done ++ rest
  pub added : (w : Here) (f : FunctionTree) → scope ≡ function_scope w f → outcome ≡ outcome_of w.environment f → AddedLoops w f done old now

pub loops_begin : (scope : ClauseScope) (outcome : TypeData) (all : List (LoopScope × SpecTree)) (now : List LoopClause) → LoopsSoFar scope outcome all all now now
loops_begin scope outcome all now = record {
  done = [];
  whole = refl;
  added = λ w f e g. record { more = []; are = tt; all = sym (append-nil now); known = tt };
}

paired_map : {A B C : Type 0} (R : B → C → Type 0) (g : A → B) (xs : List A) (zs : List C) → Paired (λ x z. R (g x) z) xs zs → Paired R (map g xs) zs
paired_map R g [] [] p = tt
paired_map R g [] (z ∷ zs) p = p
paired_map R g (x ∷ xs) [] p = p
paired_map R g (x ∷ xs) (z ∷ zs) p = (p.0, paired_map R g xs zs p.1)

pub loops_next : (scope : ClauseScope) (outcome : TypeData) (all rest : List (LoopScope × SpecTree)) (loop : LoopScope) (spec : SpecTree) (a b c : List LoopClause) → LoopsSoFar scope outcome all ((loop, spec) ∷ rest) a b → AddedOne scope (around_loop outcome loop.names) loop.at (placed_in spec) b c → LoopsSoFar scope outcome all rest a c
loops_next scope outcome all rest loop spec a b c so_far one = record {
  done = so_far.done ++ (loop, spec) ∷ [];
  whole = so_far.whole ∙ sym (append_assoc so_far.done ((loop, spec) ∷ []) rest);
  added = λ w f e g.
      let before = so_far.added w f e g in
      let here : AddedOne (function_scope w f) (around_loop_of w f loop) loop.at (placed_in spec) b c = subst (λ o. AddedOne (function_scope w f) (around_loop o loop.names) loop.at (placed_in spec) b c) g (subst (λ s. AddedOne s (around_loop outcome loop.names) loop.at (placed_in spec) b c) e one) in
      let mapped = paired_map (IsLoopClauseOf w f) (loop_source loop) (placed_in spec) here.more here.are in
      record {
        more = before.more ++ here.more;
        are = subst (λ ss. Paired (IsLoopClauseOf w f) ss (before.more ++ here.more))
            (ap (λ ss. flat_map sources_of_loop so_far.done ++ ss) (sym (append-nil (sources_of_loop (loop, spec)))) ∙ sym (flat_map-append sources_of_loop so_far.done ((loop, spec) ∷ [])))
            (paired_append (IsLoopClauseOf w f) (flat_map sources_of_loop so_far.done) (sources_of_loop (loop, spec)) before.more here.more before.are mapped);
        all = here.all ∙ ap (λ xs. xs ++ here.more) before.all ∙ append_assoc a before.more here.more;
        known = subst (λ is. AreKnown is) (sym (map-append (LoopItem w f) so_far.done ((loop, spec) ∷ []))) (known_append (map (LoopItem w f) so_far.done) (LoopItem w f (loop, spec) ∷ []) before.known (here.known, tt));
      };
}

zip_none : {A B : Type 0} (xs : List A) → zip xs (let none : List B = [] in none) ≡ []
zip_none [] = refl
zip_none (x ∷ xs) = refl

-- the loop at an index, and its spec block
pub zip_one : {A B : Type 0} (xs : List A) (ys : List B) (i : ℕ) (x : A) (y : B) → i < length xs → i < length ys → x ≡ get_or xs i x → y ≡ get_or ys i y → zip (drop i xs) (drop i ys) ≡ (x, y) ∷ zip (drop (i + 1) xs) (drop (i + 1) ys)
zip_one xs ys i x y h k e g = λ j. zip (drop_one xs i x h e j) (drop_one ys i y k g j)

pub zip_first_over : {A B : Type 0} (xs : List A) (ys : List B) (i : ℕ) → length xs ≤ i → zip (drop i xs) ys ≡ []
zip_first_over xs ys i h = ap (λ zs. zip zs ys) (drop_of_length-le xs h)

pub zip_second_over : {A B : Type 0} (xs : List A) (ys : List B) (i : ℕ) → length ys ≤ i → zip xs (drop i ys) ≡ []
zip_second_over xs ys i h = ap (λ zs. zip xs zs) (drop_of_length-le ys h) ∙ zip_none xs

-- no loop remains
pub loops_end : (scope : ClauseScope) (outcome : TypeData) (all rest : List (LoopScope × SpecTree)) (a b : List LoopClause) → LoopsSoFar scope outcome all rest a b → rest ≡ [] → (w : Here) (f : FunctionTree) → scope ≡ function_scope w f → outcome ≡ outcome_of w.environment f → AddedLoops w f all a b
loops_end scope outcome all rest a b so_far none w f e g =
    subst (λ ls. AddedLoops w f ls a b) (sym (so_far.whole ∙ ap (λ ls. so_far.done ++ ls) none ∙ append-nil so_far.done)) (so_far.added w f e g)

-- a use in the first remaining loop has no meaning
pub loops_fault : (scope : ClauseScope) (outcome : TypeData) (all rest more : List (LoopScope × SpecTree)) (loop : LoopScope) (spec : SpecTree) (a b : List LoopClause) (fault : NameFault) (span : Span) → LoopsSoFar scope outcome all rest a b → rest ≡ (loop, spec) ∷ more → span ≡ spec_span spec → IfUnknown fault (HasUnknownInOne scope (around_loop outcome loop.names) (placed_in spec)) → (w : Here) (f : FunctionTree) → scope ≡ function_scope w f → outcome ≡ outcome_of w.environment f → IsFaultAmong (map (LoopItem w f) all) (fault_at fault span)
loops_fault scope outcome all rest more loop spec a b fault span so_far split at u w f e g =
    let there : IfUnknown fault (HasUnknownInOne (function_scope w f) (around_loop_of w f loop) (placed_in spec)) = subst (λ o. IfUnknown fault (HasUnknownInOne (function_scope w f) (around_loop o loop.names) (placed_in spec))) g (subst (λ s. IfUnknown fault (HasUnknownInOne s (around_loop outcome loop.names) (placed_in spec))) e u) in
    let one = item_fault (LoopItem w f (loop, spec)) fault span at there in
    let between = fault_between (map (LoopItem w f) so_far.done) (LoopItem w f (loop, spec) ∷ []) (map (LoopItem w f) more) (fault_at fault span) (so_far.added w f e g).known one in
    subst (λ is. IsFaultAmong is (fault_at fault span)) (sym (map-append (LoopItem w f) so_far.done ((loop, spec) ∷ more)) ∙ ap (map (LoopItem w f)) (sym (so_far.whole ∙ ap (λ ls. so_far.done ++ ls) split))) between
