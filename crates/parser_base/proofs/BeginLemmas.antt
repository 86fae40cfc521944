-- Token lists that begin with the tokens of a tree: one tree after another, and the end of the tokens.
use Rattle.std.proofs.Common.{◌≡◌, ◌+◌, List, [], ◌∷◌, ◌++◌, length, refl, sym, ap, subst, ◌∙◌, arith}
use Rattle.tokens.specs.declared.token.Token.{Token}
use Rattle.syntax_tree.specs.declared.lexeme.Lexeme.{Lexeme}
use Rattle.syntax_tree.specs.Lexemes.{AreTokens}
use Rattle.parser_base.specs.Beginnings.{Begins}

pub Begins-append : (ls ms : List Lexeme) (ts mid rest : List Token) → Begins ls ts mid → Begins ms mid rest → Begins (ls ++ ms) ts rest
Begins-append [] ms ts mid rest a b = subst (λ us. Begins ms us rest) (sym a) b
Begins-append (l ∷ ls) ms [] mid rest a b = absurd a
Begins-append (l ∷ ls) ms (t ∷ ts) mid rest a b = (a.0, Begins-append ls ms ts mid rest a.1 b)

-- the tokens between two trees
pub record Middle (ls ms : List Lexeme) (ts rest : List Token) : Type 0 where
  pub mid : List Token
  pub front : Begins ls ts mid
  pub back : Begins ms mid rest

pub Begins-split : (ls ms : List Lexeme) (ts rest : List Token) → Begins (ls ++ ms) ts rest → Middle ls ms ts rest
Begins-split [] ms ts rest a = record { mid = ts; front = refl; back = a }
Begins-split (l ∷ ls) ms [] rest a = absurd a
Begins-split (l ∷ ls) ms (t ∷ ts) rest a = let s = Begins-split ls ms ts rest a.1 in record { mid = s.mid; front = (a.0, s.front); back = s.back }

-- the first token, and the rest
pub Begins-first : (l : Lexeme) (ls : List Lexeme) (ts rest : List Token) → Begins (l ∷ ls) ts rest → Middle (l ∷ []) ls ts rest
Begins-first l ls ts rest a = Begins-split (l ∷ []) ls ts rest a

pub Begins-same : (ls ms : List Lexeme) (ts rest : List Token) → ls ≡ ms → Begins ls ts rest → Begins ms ts rest
Begins-same ls ms ts rest e a = subst (λ l. Begins l ts rest) e a

pub length-Begins : (ls : List Lexeme) (ts rest : List Token) → Begins ls ts rest → length ts ≡ length ls + length rest
length-Begins [] ts rest a = ap length a ∙ omega arith
length-Begins (l ∷ ls) [] rest a = absurd a
length-Begins (l ∷ ls) (t ∷ ts) rest a = omega (arith, length-Begins ls ts rest a.1)

-- ---- token lists up to their end

pub are_tokens : (ls : List Lexeme) (ts : List Token) → Begins ls ts [] → AreTokens ts ls
are_tokens [] [] a = tt
are_tokens [] (t ∷ ts) a = absurd (cc)
are_tokens (l ∷ ls) [] a = absurd a
are_tokens (l ∷ ls) (t ∷ ts) a = (a.0, are_tokens ls ts a.1)

pub begin_all : (ls : List Lexeme) (ts : List Token) → AreTokens ts ls → Begins ls ts []
begin_all [] [] a = refl
begin_all [] (t ∷ ts) a = absurd a
begin_all (l ∷ ls) [] a = absurd a
begin_all (l ∷ ls) (t ∷ ts) a = (a.0, begin_all ls ts a.1)
