-- The clauses of a target, of some sources and of more after them.
use Rattle.std.proofs.Common.{◌≡◌, inl, inr, ℕ, suc, ◌+◌, ◌<◌, List, [], ◌∷◌, ◌++◌, length, get_or, take, drop, refl, sym, ap, subst, ◌∙◌, arith, append_assoc, append-nil, length-append}
use Rattle.base.specs.declared.span.Span.{Span}
use Rattle.syntax_tree.specs.declared.clause.Clause.{Clause as ClauseTree}
use Rattle.program.specs.declared.clause.Clause.{Clause}
use Rattle.body_names.specs.declared.spec.outer.OuterName.{OuterName}
use Rattle.resolution.specs.declared.clauses.Target.{Target}
use Rattle.resolution.specs.Setting.{ClauseScope}
use Rattle.resolution.specs.Clauses.{AddedClauses, AreClausesOf, HasUnknownAmong, HasUnknownBehind, PlacedClause, entered, lets_from, placed, placed_one}
use Rattle.resolution.proofs.ListLaws.{flat_next, flat_split}

-- ---- names and numbers

lets_append : (n m : ℕ) (ts us : List PlacedClause) → n + length ts ≡ m → lets_from n (ts ++ us) ≡ lets_from n ts ++ lets_from m us
lets_append n m [] us e = let f : n ≡ m = omega (arith, e) in ap (λ k. lets_from k us) f
lets_append n m (t ∷ ts) us e =
    ap (λ os. entered n t.tree ++ os) (lets_append (1 + n) m ts us (omega (arith, e)))
    ∙ sym (append_assoc (entered n t.tree) (lets_from (1 + n) ts) (lets_from m us))

-- one clause for each source
pub as_many : (w : ClauseScope) (outer : List OuterName) (n : ℕ) (ts : List PlacedClause) (cs : List Clause) → AreClausesOf w outer n ts cs → length ts ≡ length cs
as_many w outer n [] [] h = refl
as_many w outer n [] (c ∷ cs) h = absurd h
as_many w outer n (t ∷ ts) [] h = absurd h
as_many w outer n (t ∷ ts) (c ∷ cs) h = ap suc (as_many w (outer ++ entered n t.tree) (1 + n) ts cs h.1)

-- ---- clauses

are_append : (w : ClauseScope) (outer behind : List OuterName) (n m : ℕ) (ts us : List PlacedClause) (cs ds : List Clause) → AreClausesOf w outer n ts cs → n + length ts ≡ m → outer ++ lets_from n ts ≡ behind → AreClausesOf w behind m us ds → AreClausesOf w outer n (ts ++ us) (cs ++ ds)
are_append w outer behind n m [] us [] ds a e f b =
    let number : m ≡ n = omega (arith, e) in
    let names : behind ≡ outer = sym f ∙ append-nil outer in
    subst (λ k. AreClausesOf w outer k us ds) number (subst (λ os. AreClausesOf w os m us ds) names b)
are_append w outer behind n m [] us (c ∷ cs) ds a e f b = absurd a
are_append w outer behind n m (t ∷ ts) us [] ds a e f b = absurd a
are_append w outer behind n m (t ∷ ts) us (c ∷ cs) ds a e f b =
    (a.0, are_append w (outer ++ entered n t.tree) behind (1 + n) m ts us cs ds a.1 (omega (arith, e)) (append_assoc outer (entered n t.tree) (lets_from (1 + n) ts) ∙ f) b)

-- nothing is added
pub added_none : (w : ClauseScope) (a : Target) → AddedClauses w [] a a
added_none w a = record {
  more = [];
  are = tt;
  clauses = sym (append-nil a.clauses);
  outer = sym (append-nil a.outer);
}

-- the clauses of some sources, and then those of more
pub added_both : (w : ClauseScope) (ts us : List PlacedClause) (a b c : Target) → AddedClauses w ts a b → AddedClauses w us b c → AddedClauses w (ts ++ us) a c
added_both w ts us a b c one two =
    let n : ℕ = length a.clauses in
    let m : ℕ = length b.clauses in
    let same : length ts ≡ length one.more = as_many w a.outer n ts one.more one.are in
    let number : n + length ts ≡ m = omega (arith, same, ap length one.clauses, length-append a.clauses one.more) in
    record {
      more = one.more ++ two.more;
      are = are_append w a.outer b.outer n m ts us one.more two.more one.are number (sym one.outer) two.are;
      clauses = two.clauses ∙ ap (λ cs. cs ++ two.more) one.clauses ∙ append_assoc a.clauses one.more two.more;
      outer = two.outer ∙ ap (λ os. os ++ lets_from m us) one.outer ∙ append_assoc a.outer (lets_from n ts) (lets_from m us) ∙ ap (λ os. a.outer ++ os) (sym (lets_append n m ts us number));
    }

-- ---- uses without a meaning

pub unknown_first : (w : ClauseScope) (outer : List OuterName) (n : ℕ) (ts us : List PlacedClause) → HasUnknownAmong w outer n ts → HasUnknownAmong w outer n (ts ++ us)
unknown_first w outer n [] us h = absurd h
unknown_first w outer n (t ∷ ts) us (inl h) = inl h
unknown_first w outer n (t ∷ ts) us (inr h) = inr (unknown_first w (outer ++ entered n t.tree) (1 + n) ts us h)

unknown_second : (w : ClauseScope) (outer behind : List OuterName) (n m : ℕ) (ts us : List PlacedClause) → n + length ts ≡ m → outer ++ lets_from n ts ≡ behind → HasUnknownAmong w behind m us → HasUnknownAmong w outer n (ts ++ us)
unknown_second w outer behind n m [] us e f h =
    let number : m ≡ n = omega (arith, e) in
    let names : behind ≡ outer = sym f ∙ append-nil outer in
    subst (λ k. HasUnknownAmong w outer k us) number (subst (λ os. HasUnknownAmong w os m us) names h)
unknown_second w outer behind n m (t ∷ ts) us e f h =
    inr (unknown_second w (outer ++ entered n t.tree) behind (1 + n) m ts us (omega (arith, e)) (append_assoc outer (entered n t.tree) (lets_from (1 + n) ts) ∙ f) h)

-- in more sources, after those whose clauses are added
pub unknown_behind : (w : ClauseScope) (ts us : List PlacedClause) (a b : Target) → AddedClauses w ts a b → HasUnknownBehind w us b → HasUnknownBehind w (ts ++ us) a
unknown_behind w ts us a b one h =
    let n : ℕ = length a.clauses in
    let m : ℕ = length b.clauses in
    let same : length ts ≡ length one.more = as_many w a.outer n ts one.more one.are in
    let number : n + length ts ≡ m = omega (arith, same, ap length one.clauses, length-append a.clauses one.more) in
    unknown_second w a.outer b.outer n m ts us number (sym one.outer) h

-- ---- the clauses of a block, one after another

pub block_next : (w : ClauseScope) (block : Span) (xs : List ClauseTree) (i : ℕ) (x : ClauseTree) (old now new : Target) → i < length xs → x ≡ get_or xs i x → AddedClauses w (placed block (take i xs)) old now → AddedClauses w (placed_one block x) now new → AddedClauses w (placed block (take (i + 1) xs)) old new
block_next w block xs i x old now new h e done one =
    subst (λ ts. AddedClauses w ts old new) (flat_next (placed_one block) xs i x h e) (added_both w (placed block (take i xs)) (placed_one block x) old now new done one)

pub block_unknown : (w : ClauseScope) (block : Span) (xs : List ClauseTree) (i : ℕ) (x : ClauseTree) (old now : Target) → i < length xs → x ≡ get_or xs i x → AddedClauses w (placed block (take i xs)) old now → HasUnknownBehind w (placed_one block x) now → HasUnknownBehind w (placed block xs) old
block_unknown w block xs i x old now h e done f =
    let first : List PlacedClause = placed block (take i xs) ++ placed_one block x in
    let here : HasUnknownBehind w first old = unknown_behind w (placed block (take i xs)) (placed_one block x) old now done f in
    let all : HasUnknownBehind w (first ++ placed block (drop (suc i) xs)) old = unknown_first w old.outer (length old.clauses) first (placed block (drop (suc i) xs)) here in
    subst (λ ts. HasUnknownBehind w ts old) (sym (flat_split (placed_one block) xs i x h e)) all
