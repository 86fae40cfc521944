-- Operands joined by operators are read exactly.
use Rattle.std.proofs.Common.{◌≡◌, ℕ, zero, suc, ◌<◌, ◌≤◌, Bool, true, false, cond, List, ◌++◌, Some, None, length, refl, sym, ap, subst, ◌∙◌, inl, inr, arith}
use Rattle.std.specs.Prelude.{option_and_then, nat_le}
use Rattle.std.proofs.lemmas.Bool.{leb-true, leb-false, le-leb}
use Rattle.tokens.specs.declared.token.Token.{Token}
use Rattle.syntax_tree.specs.declared.lexeme.Lexeme.{Lexeme}
use Rattle.parser_base.specs.Beginnings.{Begins}
use Rattle.parser_base.specs.TokenReading.{Read}
use Rattle.parser_base.specs.ChainReading.{Joints, next_operator, chain_at, whole_chain_at}
use Rattle.parser_base.proofs.Steps.{step, some_one, either, if_some, bind_some, map_or_none, map_or_some}
use Rattle.parser_base.proofs.BeginLemmas.{Begins-append, Begins-split, Begins-same, length-Begins}

-- the properties of the operands of a joined tree
pub record Parts {X O : Type 0} (joints : Joints X O) (proper : X → Type 0) (suits : X → O → Type 0) (level_of : X → ℕ) (left : O → ℕ) (l : X) (o : O) (r : X) : Type 0 where
  pub left_proper : proper l
  pub right_proper : proper r
  pub left_level : left o ≤ level_of l
  pub right_level : joints.right o ≤ level_of r
  pub suited : suits l o

-- the assumptions on trees with these joints
pub record Rules {X O : Type 0} (joints : Joints X O) : Type 1 where
  pub spelling : X → List Lexeme
  -- the operator's own tokens, after a tree
  pub between : X → O → List Lexeme
  pub proper : X → Type 0
  -- whether an operator can follow a tree, apart from their levels
  pub suits : X → O → Type 0
  -- the first tokens of a right operand
  pub opens : List Token → Type 0
  pub level_of : X → ℕ
  pub left : O → ℕ
  pub join_spelled : (l : X) (o : O) (r : X) → spelling (joints.join l o r) ≡ spelling l ++ (between l o ++ spelling r)
  pub join_level : (l : X) (o : O) (r : X) → level_of (joints.join l o r) ≡ joints.level o
  pub join_proper : (l : X) (o : O) (r : X) → proper l → proper r → left o ≤ level_of l → joints.right o ≤ level_of r → suits l o → proper (joints.join l o r)
  -- what follows a joined tree follows its right operand
  pub join_operator : (l : X) (o : O) (r : X) (ts : List Token) → joints.operator_at (joints.join l o r) ts ≡ joints.operator_at r ts
  -- an operator looser than the right operand of another can have the joined tree on its left
  pub looser : (o p : O) → joints.level p < joints.right o → left p ≤ joints.level o
  -- the converse
  pub tighter : (o p : O) → left p ≤ joints.level o → joints.level p < joints.right o
  pub right_some : (o : O) → 0 < joints.right o
  pub own_left : (o : O) → joints.level o ≤ left o
  pub right_opens : (r : X) (ts rest : List Token) → Begins (spelling r) ts rest → proper r → opens ts
  pub operator_some : (l : X) (o : O) → 0 < length (between l o)
  pub join_parts : (l : X) (o : O) (r : X) → proper (joints.join l o r) → Parts joints proper suits level_of left l o r
  pub operator_complete : (l : X) (o : O) (ts us : List Token) → Begins (between l o) ts us → suits l o → opens us → joints.operator_at l ts ≡ Some (o, us)
  pub operator_sound : (l : X) (ts : List Token) (q : O × List Token) → joints.operator_at l ts ≡ Some q → Begins (between l q.0) ts q.1 × suits l q.0

module _ {X O : Type 0} (joints : Joints X O) (rules : Rules joints) where
  next-sound : (minimum : ℕ) (l : X) (ts : List Token) (q : O × List Token) → next_operator joints minimum l ts ≡ Some q → (joints.operator_at l ts ≡ Some q) × (minimum ≤ joints.level q.0)
  unfolding next_operator
  next-sound minimum l ts q e =
      let s = step (joints.operator_at l ts) _ q e in
      let c = if_some (nat_le minimum (joints.level s.value.0)) (s.value.0, s.value.1) q s.then in
      (s.first ∙ ap Some c.1, subst (λ p. minimum ≤ joints.level p.0) c.1 (leb-true minimum (joints.level s.value.0) c.0))

  pub next-complete : (minimum : ℕ) (l : X) (ts : List Token) (o : O) (us : List Token) → joints.operator_at l ts ≡ Some (o, us) → minimum ≤ joints.level o → next_operator joints minimum l ts ≡ Some (o, us)
  unfolding next_operator
  next-complete minimum l ts o us e h =
      bind_some (joints.operator_at l ts) (λ o. cond (nat_le minimum (joints.level o.0)) (Some (o.0, o.1)) None) (o, us) e ∙ ap (λ b. cond b (Some (o, us)) None) (le-leb minimum (joints.level o) h)

  -- if no operator of this level is here, one that is here is looser
  next-none : (minimum : ℕ) (l : X) (ts : List Token) (q : O × List Token) → next_operator joints minimum l ts ≡ None → joints.operator_at l ts ≡ Some q → joints.level q.0 < minimum
  unfolding next_operator
  next-none minimum l ts q e h = go (nat_le minimum (joints.level q.0)) refl (sym (bind_some (joints.operator_at l ts) (λ o. cond (nat_le minimum (joints.level o.0)) (Some (o.0, o.1)) None) q h) ∙ e)
    where
      go : (b : Bool) → nat_le minimum (joints.level q.0) ≡ b → cond {A = Read O} b (Some (q.0, q.1)) None ≡ None → joints.level q.0 < minimum
      go true is e = absurd (cc)
      go false is e = leb-false minimum (joints.level q.0) is

  -- if no operator of a level is here, none of a tighter level is
  pub next_above : (m n : ℕ) (l : X) (ts : List Token) → m ≤ n → next_operator joints m l ts ≡ None → next_operator joints n l ts ≡ None
  unfolding next_operator
  next_above m n l ts h e = go (joints.operator_at l ts) e
    where
      test : (a b : Bool) (q : O × List Token) → (b ≡ true → a ≡ true) → cond {A = Read O} a (Some (q.0, q.1)) None ≡ None → cond {A = Read O} b (Some (q.0, q.1)) None ≡ None
      test a false q f e = refl
      test a true q f e = sym (ap (λ c. cond {A = Read O} c (Some (q.0, q.1)) None) (f refl)) ∙ e

      go : (o : Read O) → option_and_then {U = O × List Token} (λ o. cond (nat_le m (joints.level o.0)) (Some (o.0, o.1)) None) o ≡ None → option_and_then {U = O × List Token} (λ o. cond (nat_le n (joints.level o.0)) (Some (o.0, o.1)) None) o ≡ None
      go None e = refl
      go (Some q) e = test (nat_le m (joints.level q.0)) (nat_le n (joints.level q.0)) q (λ t. le-leb m (joints.level q.0) (omega (arith, h, leb-true n (joints.level q.0) t))) e

  -- what follows a joined tree follows its right operand
  pub next_same : (m : ℕ) (l : X) (o : O) (r : X) (ts : List Token) → next_operator joints m (joints.join l o r) ts ≡ next_operator joints m r ts
  unfolding next_operator
  next_same m l o r ts = ap (option_and_then (λ o. cond (nat_le m (joints.level o.0)) (Some (o.0, o.1)) None)) (rules.join_operator l o r ts)

  -- the tree read up to where no operator of this level follows
  pub record Joined (minimum : ℕ) (whole : List Token) (r : X × List Token) : Type 0 where
    pub spelled : Begins (rules.spelling r.0) whole r.1
    pub is_proper : rules.proper r.0
    pub level : minimum ≤ rules.level_of r.0
    -- anything can follow a joined tree of level 0: assignments and control forms end by their own rules
    pub stops : 0 < minimum → next_operator joints minimum r.0 r.1 ≡ None

  -- an operator that follows the tree can have it on its left
  abbrev pub MayGoOn : X → List Token → Type 0
  MayGoOn l ts = (q : O × List Token) → joints.operator_at l ts ≡ Some q → rules.left q.0 ≤ rules.level_of l

  module _ (inner : ℕ → List Token → Read X) (inner_sound : (o : O) (ts : List Token) (r : X × List Token) → inner (joints.right o) ts ≡ Some r → Joined (joints.right o) ts r) where
    -- the join of a tree, an operator and the tree read after it
    joined-spelled : (whole ts us rest : List Token) (l : X) (o : O) (r : X) → Begins (rules.spelling l) whole ts → Begins (rules.between l o) ts us → Begins (rules.spelling r) us rest → Begins (rules.spelling (joints.join l o r)) whole rest
    joined-spelled whole ts us rest l o r a b c =
        Begins-same _ _ whole rest (sym (rules.join_spelled l o r)) (Begins-append (rules.spelling l) (rules.between l o ++ rules.spelling r) whole ts rest a (Begins-append (rules.between l o) (rules.spelling r) ts us rest b c))

    pub chain_at-sound : (n minimum : ℕ) (l : X) (whole ts : List Token) (r : X × List Token) → Begins (rules.spelling l) whole ts → rules.proper l → minimum ≤ rules.level_of l → MayGoOn l ts
        → chain_at joints inner minimum n l ts ≡ Some r → Joined minimum whole r
    unfolding chain_at
    chain_at-sound zero minimum l whole ts r front p h may e = absurd (cc)
    chain_at-sound (suc n) minimum l whole ts r front p h may e =
        elim (either (next_operator joints minimum l ts) _ _ r e) [
          | inl s ↦
              let x = step (inner (joints.right s.value.0) s.value.1) _ r s.then in
              let right = inner_sound s.value.0 s.value.1 x.value x.first in
              let next = next-sound minimum l ts s.value s.first in
              let operator = rules.operator_sound l ts s.value next.0 in
              chain_at-sound n minimum (joints.join l s.value.0 x.value.0) whole x.value.1 r
              (joined-spelled whole ts s.value.1 x.value.1 l s.value.0 x.value.0 front operator.0 right.spelled)
              (rules.join_proper l s.value.0 x.value.0 p right.is_proper (may s.value next.0) right.level operator.1)
              (subst (λ k. minimum ≤ k) (sym (rules.join_level l s.value.0 x.value.0)) next.1)
              (λ q e. subst (λ k. rules.left q.0 ≤ k) (sym (rules.join_level l s.value.0 x.value.0)) (rules.looser s.value.0 q.0 (next-none (joints.right s.value.0) x.value.0 x.value.1 q (right.stops (rules.right_some s.value.0)) (sym (rules.join_operator l s.value.0 x.value.0 x.value.1) ∙ e))))
              x.then
          | inr m ↦ subst (Joined minimum whole) (some_one (l, ts) r m.1) (record { spelled = front; is_proper = p; level = h; stops = λ z. m.0 })
        ]

  -- ---- each proper tree is read

  -- a tree as operands and the operators that join them
  pub data Spine : X → Type 0 where
    operand : (e : X) → Spine e
    joined : (l : X) → Spine l → (o : O) → (r : X) → Spine (joints.join l o r)

  -- the first operand, where reading begins
  abbrev pub first_of : {e : X} → Spine e → X
  first_of (operand e) = e
  first_of (joined l s o r) = first_of s

  -- an operator follows an operand
  pub record OperatorBehind (e : X) (ts : List Token) : Type 0 where
    pub operator : O
    pub rest : List Token
    pub begins : Begins (rules.between e operator) ts rest
    pub suited : rules.suits e operator
    pub opened : rules.opens rest

  -- what follows the first operand: the end of the tree, or an operator
  abbrev pub Behind : {e : X} → Spine e → List Token → List Token → Type 0
  Behind (operand f) us rest = us ≡ rest
  Behind (joined l s o r) us rest = OperatorBehind (first_of s) us

  still : (l : X) (s : Spine l) (o : O) (us ts rest : List Token) → Behind s us ts → Begins (rules.between l o) ts rest → rules.suits l o → rules.opens rest → OperatorBehind (first_of s) us
  still l (operand f) o us ts rest e b c d = record { operator = o; rest = rest; begins = subst (λ vs. Begins (rules.between f o) vs rest) (sym e) b; suited = c; opened = d }
  still l (joined k s p r) o us ts rest e b c d = e

  module _ (inner : ℕ → List Token → Read X) (bound : ℕ) (Follows : ℕ → X → List Token → Type 0)
      (inner_complete : (o : O) (e : X) (ts rest : List Token) → length ts ≤ bound → Begins (rules.spelling e) ts rest → rules.proper e → joints.right o ≤ rules.level_of e → Follows (joints.right o) e rest → inner (joints.right o) ts ≡ Some (e, rest))
      (operator_follows : (l : X) (o : O) (r : X) (p : O) (ts us : List Token) → Begins (rules.between (joints.join l o r) p) ts us → rules.suits (joints.join l o r) p → rules.opens us → joints.level p < joints.right o → rules.proper r → joints.right o ≤ rules.level_of r → Follows (joints.right o) r ts) where
    -- the loop is after the tree, with steps left
    pub record Reached (minimum n : ℕ) (first : X) (us : List Token) (e : X) (rest : List Token) : Type 0 where
      pub left : ℕ
      pub enough : length rest < left
      pub same : chain_at joints inner minimum n first us ≡ chain_at joints inner minimum left e rest

    pub record Walk (minimum : ℕ) (e : X) (s : Spine e) (ts rest : List Token) : Type 0 where
      pub us : List Token
      pub front : Begins (rules.spelling (first_of s)) ts us
      pub first_proper : rules.proper (first_of s)
      pub behind : Behind s us rest
      pub goes : (n : ℕ) → length us < n → Reached minimum n (first_of s) us e rest

    -- what follows lets the last operand end
    abbrev pub Fits : (e : X) → Spine e → List Token → Type 0
    Fits e (operand f) rest = Unit {0}
    Fits e (joined l s o r) rest = Follows (joints.right o) r rest

    turn : (minimum k : ℕ) (first : X) (n : ℕ) (us0 : List Token) (l : X) (o : O) (r : X) (ts us rest : List Token) → length us ≤ bound → length us < length ts → length rest ≤ length us → chain_at joints inner minimum n first us0 ≡ chain_at joints inner minimum k l ts → length ts < k
        → joints.operator_at l ts ≡ Some (o, us) → minimum ≤ joints.level o → inner (joints.right o) us ≡ Some (r, rest) → Reached minimum n first us0 (joints.join l o r) rest
    unfolding chain_at
    turn minimum zero first n us0 l o r ts us rest b h i e k p m q = absurd (omega (arith, k))
    turn minimum (suc k) first n us0 l o r ts us rest b h i e j p m q = record {
      left = k;
      enough = omega (arith, h, i, j);
      same = e ∙ map_or_some (next_operator joints minimum l ts) _ (Some (l, ts)) (o, us) (next-complete minimum l ts o us p m)
          ∙ bind_some (inner (joints.right o) us) (λ r. chain_at joints inner minimum k (joints.join l o r.0) r.1) (r, rest) q;
    }

    fits_operator : (l : X) (s : Spine l) (p : O) (ts us : List Token) → Begins (rules.between l p) ts us → rules.suits l p → rules.opens us → rules.left p ≤ rules.level_of l → rules.proper l → Fits l s ts
    fits_operator l (operand f) p ts us b c d h q = tt
    fits_operator l (joined k s o r) p ts us b c d h q =
        let parts = rules.join_parts k o r q in
        operator_follows k o r p ts us b c d (rules.tighter o p (subst (λ n. rules.left p ≤ n) (rules.join_level k o r) h)) parts.right_proper parts.right_level

    pub walk : (minimum : ℕ) (e : X) (s : Spine e) (ts rest : List Token) → length ts ≤ suc bound → Begins (rules.spelling e) ts rest → rules.proper e → minimum ≤ rules.level_of e → Fits e s rest → Walk minimum e s ts rest
    walk minimum e (operand f) ts rest h b p m fits = record {
      us = rest;
      front = b;
      first_proper = p;
      behind = refl;
      goes = λ n k. record { left = n; enough = k; same = refl };
    }
    walk minimum e (joined l s o r) ts rest h b p m fits =
        let parts = rules.join_parts l o r p in
        let a = Begins-split (rules.spelling l) (rules.between l o ++ rules.spelling r) ts rest (Begins-same _ _ ts rest (rules.join_spelled l o r) b) in
        let c = Begins-split (rules.between l o) (rules.spelling r) a.mid rest a.back in
        let opened = rules.right_opens r c.mid rest c.back parts.right_proper in
        let top = subst (λ k. minimum ≤ k) (rules.join_level l o r) m in
        let shorter : length c.mid < length a.mid = omega (arith, length-Begins (rules.between l o) a.mid c.mid c.front, rules.operator_some l o) in
        let before = walk minimum l s ts a.mid h a.front parts.left_proper (omega (arith, top, rules.own_left o, parts.left_level)) (fits_operator l s o a.mid c.mid c.front parts.suited opened parts.left_level parts.left_proper) in
        record {
          us = before.us;
          front = before.front;
          first_proper = before.first_proper;
          behind = still l s o before.us a.mid c.mid before.behind c.front parts.suited opened;
          goes = λ n k. let reached = before.goes n k in
              turn minimum reached.left (first_of s) n before.us l o r a.mid c.mid rest
              (omega (arith, shorter, h, length-Begins (rules.spelling l) ts a.mid a.front)) shorter (omega (arith, length-Begins (rules.spelling r) c.mid rest c.back)) reached.same reached.enough
              (rules.operator_complete l o a.mid c.mid c.front parts.suited opened) top
              (inner_complete o r c.mid rest (omega (arith, shorter, h, length-Begins (rules.spelling l) ts a.mid a.front)) c.back parts.right_proper parts.right_level fits);
        }

    -- the loop reads the whole tree and ends after it
    pub chain-complete : (minimum : ℕ) (e : X) (s : Spine e) (ts rest : List Token) → (w : Walk minimum e s ts rest) → next_operator joints minimum e rest ≡ None → whole_chain_at joints inner minimum (first_of s) w.us ≡ Some (e, rest)
    unfolding chain_at
    chain-complete minimum e s ts rest w h = let reached = w.goes (suc (length w.us)) (omega arith) in reached.same ∙ last reached.left reached.enough
      where
        last : (k : ℕ) → length rest < k → chain_at joints inner minimum k e rest ≡ Some (e, rest)
        last zero j = absurd (omega (arith, j))
        last (suc k) j = map_or_none (next_operator joints minimum e rest) _ (Some (e, rest)) h
