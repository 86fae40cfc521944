-- Paths are read exactly.
use Rattle.std.proofs.Common.{◌≡◌, ℕ, true, false, List, [], ◌∷◌, ◌++◌, Some, None, refl, sym, ap, subst, ◌∙◌, inl, inr}
use Rattle.std.specs.Prelude.{option_and_then}
use Rattle.std.specs.Option.{option_map}
use Rattle.std.specs.Cmp.Lexicographic.{same_text}
use Rattle.tokens.specs.declared.token.Token.{Token}
use Rattle.tokens.specs.declared.token.TokenKind.{TokenKind}
use Rattle.tokens.specs.declared.token.TokenKind.TheVariants.{Word, Number, ByteString, Punctuation}
use Rattle.tokens.specs.declared.token.NumberLiteral.{NumberLiteral}
use Rattle.tokens.specs.declared.token.NumberSuffix.{NumberSuffix}
use Rattle.tokens.specs.declared.token.NumberSuffix.TheVariants.{Absent, U8, U16, U32, U64, U128, U256}
use Rattle.tokens.specs.declared.token.Punctuation.{Punctuation as Sign}
use Rattle.tokens.specs.declared.token.Punctuation.TheVariants.{ColonColon}
use Rattle.syntax_tree.specs.declared.lexeme.Identifier.{Identifier}
use Rattle.syntax_tree.specs.declared.lexeme.Numeral.{Numeral}
use Rattle.syntax_tree.specs.declared.lexeme.Lexeme.{Lexeme}
use Rattle.syntax_tree.specs.declared.path.Address.{Address}
use Rattle.syntax_tree.specs.declared.path.Address.TheVariants.{Number as number_address, Name as name_address}
use Rattle.syntax_tree.specs.declared.path.ModuleName.{ModuleName}
use Rattle.syntax_tree.specs.declared.path.Path.{Path}
use Rattle.syntax_tree.specs.declared.path.Path.TheVariants.{Name as name_path, Member as member_path, Full as full_path}
use Rattle.syntax_tree.specs.Lexemes.{sign, identifier, numeral}
use Rattle.syntax_tree.specs.NameRules.{IsName}
use Rattle.syntax_tree.specs.PathSpelling.{address_spelling, module_spelling, path_spelling}
use Rattle.syntax_tree.specs.ProperTypes.{IsProperAddress, IsProperModuleName, IsProperPath, IsOther}
use Rattle.parser_base.specs.Beginnings.{Begins}
use Rattle.parser_base.specs.TokenReading.{after_sign, after_word, identifier_at, is_sign, is_word, is_keyword}
use Rattle.base.specs.Names.{same_name}
use Rattle.parser_base.proofs.Steps.{step, last, some_one, either, bind_some, map_some, map_or_none, map_or_some}
use Rattle.parser_base.proofs.BeginLemmas.{Begins-append, Begins-split, Begins-first}
use Rattle.parser_base.proofs.TokenLemmas.{after_sign-sound, after_sign-complete, after_sign-other, after_word-other, identifier_at-sound, identifier_at-complete, name_is_no_keyword}
use Rattle.base.proofs.NameLaws.{same_name-same, same_name-other}
use Rattle.parser_base.specs.PathReading.{unsuffixed, address_number_of, address_number_at, address_at, module_name_at, member_at, path_behind_number, path_behind_names, path_behind_name, path_at, is_single}

-- ---- addresses

unsuffixed-sound : (literal : NumberLiteral) (suffix : NumberSuffix) (l : NumberLiteral) → unsuffixed literal suffix ≡ Some l → (literal ≡ l) × (suffix ≡ Absent)
unsuffixed-sound literal Absent l e = (some_one literal l e, refl)
unsuffixed-sound literal U8 l e = absurd (cc)
unsuffixed-sound literal U16 l e = absurd (cc)
unsuffixed-sound literal U32 l e = absurd (cc)
unsuffixed-sound literal U64 l e = absurd (cc)
unsuffixed-sound literal U128 l e = absurd (cc)
unsuffixed-sound literal U256 l e = absurd (cc)

address_number_of-sound : (kind : TokenKind) (l : NumberLiteral) → address_number_of kind ≡ Some l → (kind ≡ Number l) × (l.suffix ≡ Absent)
address_number_of-sound (Number literal) l e = let u = unsuffixed-sound literal literal.suffix l e in (ap Number u.0, subst (λ m. m.suffix ≡ Absent) u.0 u.1)
address_number_of-sound (Word w) l e = absurd (cc)
address_number_of-sound (ByteString text) l e = absurd (cc)
address_number_of-sound (Punctuation s) l e = absurd (cc)

pub address_number_at-sound : (ts : List Token) (r : Numeral × List Token) → address_number_at ts ≡ Some r → Begins (numeral r.0 ∷ []) ts r.1 × (r.0.literal.suffix ≡ Absent)
unfolding address_number_at
address_number_at-sound [] r e = absurd (cc)
address_number_at-sound (t ∷ ts) r e =
    let l = last (address_number_of t.kind) (λ literal. (record { literal = literal; span = t.span }, ts)) r e in
    let s = address_number_of-sound t.kind l.value l.first in
    subst (λ q. Begins (numeral q.0 ∷ []) (t ∷ ts) q.1 × (q.0.literal.suffix ≡ Absent)) l.then ((record { kind = s.0; placed = refl; glued = tt }, refl), s.1)

pub address_number_at-complete : (n : Numeral) (ts rest : List Token) → Begins (numeral n ∷ []) ts rest → n.literal.suffix ≡ Absent → address_number_at ts ≡ Some (n, rest)
unfolding address_number_at
address_number_at-complete n [] rest b p = absurd b
address_number_at-complete n (t ∷ ts) rest b p =
    ap (λ k. option_map (λ literal. (record { literal = literal; span = t.span }, ts)) (address_number_of k)) b.0.kind
    ∙ ap (λ s. option_map (λ literal. (record { literal = literal; span = t.span }, ts)) (unsuffixed n.literal s)) p
    ∙ ap (λ span. Some (record { literal = n.literal; span = span }, ts)) b.0.placed ∙ ap (λ us. Some (n, us)) b.1

pub address_number_at-other : (l : Lexeme) (ls : List Lexeme) (ts rest : List Token) → address_number_of l.kind ≡ None → Begins (l ∷ ls) ts rest → address_number_at ts ≡ None
unfolding address_number_at
address_number_at-other l ls [] rest e b = absurd b
address_number_at-other l ls (t ∷ ts) rest e b =
    ap (λ k. option_map (λ literal. (record { literal = literal; span = t.span }, ts)) (address_number_of k)) b.0.kind
    ∙ ap (option_map (λ literal. (record { literal = literal; span = t.span }, ts))) e

pub address_at-sound : (ts : List Token) (r : Address × List Token) → address_at ts ≡ Some r → Begins (address_spelling r.0) ts r.1 × IsProperAddress r.0
unfolding address_at
address_at-sound ts r e =
    elim (either (address_number_at ts) (λ n. Some (number_address n.0, n.1)) _ r e) [
      | inl s ↦ subst (λ q. Begins (address_spelling q.0) ts q.1 × IsProperAddress q.0) (some_one (number_address s.value.0, s.value.1) r s.then) (address_number_at-sound ts s.value s.first)
      | inr n ↦
          let i = last (identifier_at ts) (λ i. (name_address i.0, i.1)) r n.1 in
          subst (λ q. Begins (address_spelling q.0) ts q.1 × IsProperAddress q.0) i.then (identifier_at-sound ts i.value i.first)
    ]

pub address_at-complete : (a : Address) (ts rest : List Token) → Begins (address_spelling a) ts rest → IsProperAddress a → address_at ts ≡ Some (a, rest)
unfolding address_at
address_at-complete (number_address n) ts rest b p = map_or_some (address_number_at ts) (λ n. Some (number_address n.0, n.1)) _ (n, rest) (address_number_at-complete n ts rest b p)
address_at-complete (name_address i) ts rest b p =
    map_or_none (address_number_at ts) (λ n. Some (number_address n.0, n.1)) _ (address_number_at-other (identifier i) [] ts rest refl b)
    ∙ map_some (identifier_at ts) (λ i. (name_address i.0, i.1)) (i, rest) (identifier_at-complete i ts rest b p)

-- ---- names of modules

pub module_name_at-sound : (ts : List Token) (r : ModuleName × List Token) → module_name_at ts ≡ Some r → Begins (module_spelling r.0) ts r.1 × IsProperModuleName r.0
unfolding module_name_at
module_name_at-sound ts r e =
    let a = step (address_at ts) _ r e in
    let c = step (after_sign ColonColon a.value.1) _ r a.then in
    let n = last (identifier_at c.value) _ r c.then in
    let address = address_at-sound ts a.value a.first in
    let name = identifier_at-sound c.value n.value n.first in
    subst (λ q. Begins (module_spelling q.0) ts q.1 × IsProperModuleName q.0) n.then (
      Begins-append (address_spelling a.value.0) (sign ColonColon ∷ identifier n.value.0 ∷ []) ts a.value.1 n.value.1 address.0
          (Begins-append (sign ColonColon ∷ []) (identifier n.value.0 ∷ []) a.value.1 c.value n.value.1 (after_sign-sound ColonColon a.value.1 c.value c.first) name.0),
      (address.1, name.1),
    )

pub module_name_at-complete : (m : ModuleName) (ts rest : List Token) → Begins (module_spelling m) ts rest → IsProperModuleName m → module_name_at ts ≡ Some (m, rest)
unfolding module_name_at
module_name_at-complete m ts rest b p =
    let a = Begins-split (address_spelling m.address) (sign ColonColon ∷ identifier m.name ∷ []) ts rest b in
    let c = Begins-first (sign ColonColon) (identifier m.name ∷ []) a.mid rest a.back in
    bind_some (address_at ts) (λ address. option_and_then (λ rest. option_map (λ name. (record { address = address.0; name = name.0 }, name.1)) (identifier_at rest)) (after_sign ColonColon address.1)) (m.address, a.mid)
    (address_at-complete m.address ts a.mid a.front p.0)
    ∙ bind_some (after_sign ColonColon a.mid) (λ rest. option_map (λ name. (record { address = m.address; name = name.0 }, name.1)) (identifier_at rest)) c.mid (after_sign-complete ColonColon a.mid c.mid c.front)
    ∙ map_some (identifier_at c.mid) (λ name. (record { address = m.address; name = name.0 }, name.1)) (m.name, rest) (identifier_at-complete m.name c.mid rest c.back p.1)

-- ---- paths

member_at-sound : (owner : ModuleName) (whole mid ts : List Token) (r : Path × List Token) → Begins (module_spelling owner) whole mid → Begins (sign ColonColon ∷ []) mid ts → IsProperModuleName owner
    → member_at owner ts ≡ Some r → Begins (path_spelling r.0) whole r.1 × IsProperPath r.0
unfolding member_at
member_at-sound owner whole mid ts r front colons p e =
    let n = last (identifier_at ts) (λ name. (full_path owner name.0, name.1)) r e in
    let name = identifier_at-sound ts n.value n.first in
    subst (λ q. Begins (path_spelling q.0) whole q.1 × IsProperPath q.0) n.then (
      Begins-append (module_spelling owner) (sign ColonColon ∷ identifier n.value.0 ∷ []) whole mid n.value.1 front
          (Begins-append (sign ColonColon ∷ []) (identifier n.value.0 ∷ []) mid ts n.value.1 colons name.0),
      (p, name.1),
    )

path_behind_number-sound : (number : Numeral) (whole ts : List Token) (r : Path × List Token) → Begins (numeral number ∷ []) whole ts → number.literal.suffix ≡ Absent
    → path_behind_number number ts ≡ Some r → Begins (path_spelling r.0) whole r.1 × IsProperPath r.0
unfolding path_behind_number
path_behind_number-sound number whole ts r front p e =
    let a = step (after_sign ColonColon ts) _ r e in
    let m = step (identifier_at a.value) _ r a.then in
    let c = step (after_sign ColonColon m.value.1) _ r m.then in
    let name = identifier_at-sound a.value m.value m.first in
    let owner : ModuleName = record { address = number_address number; name = m.value.0 } in
    member_at-sound owner whole m.value.1 c.value r
    (Begins-append (numeral number ∷ []) (sign ColonColon ∷ identifier m.value.0 ∷ []) whole ts m.value.1 front
    (Begins-append (sign ColonColon ∷ []) (identifier m.value.0 ∷ []) ts a.value m.value.1 (after_sign-sound ColonColon ts a.value a.first) name.0))
    (after_sign-sound ColonColon m.value.1 c.value c.first) (p, name.1) c.then

path_behind_name-sound : (i : Identifier) (whole ts : List Token) (r : Path × List Token) → Begins (identifier i ∷ []) whole ts → IsName i.text
    → path_behind_name i ts ≡ Some r → Begins (path_spelling r.0) whole r.1 × IsProperPath r.0
unfolding path_behind_name path_behind_names
path_behind_name-sound i whole ts r front p e =
    elim (either (after_sign ColonColon ts) _ _ r e) [
      | inl s ↦
          let m = step (identifier_at s.value) _ r s.then in
          let name = identifier_at-sound s.value m.value m.first in
          let both = Begins-append (identifier i ∷ []) (sign ColonColon ∷ identifier m.value.0 ∷ []) whole ts m.value.1 front
          (Begins-append (sign ColonColon ∷ []) (identifier m.value.0 ∷ []) ts s.value m.value.1 (after_sign-sound ColonColon ts s.value s.first) name.0) in
          elim (either (after_sign ColonColon m.value.1) _ _ r m.then) [
            | inl c ↦
                let owner : ModuleName = record { address = name_address i; name = m.value.0 } in
                member_at-sound owner whole m.value.1 c.value r both (after_sign-sound ColonColon m.value.1 c.value c.first) (p, name.1) c.then
            | inr n ↦ subst (λ q. Begins (path_spelling q.0) whole q.1 × IsProperPath q.0) (some_one (member_path i m.value.0, m.value.1) r n.1) (both, (p, name.1))
          ]
      | inr n ↦ subst (λ q. Begins (path_spelling q.0) whole q.1 × IsProperPath q.0) (some_one (name_path i, ts) r n.1) (front, p)
    ]

pub path_at-sound : (ts : List Token) (r : Path × List Token) → path_at ts ≡ Some r → Begins (path_spelling r.0) ts r.1 × IsProperPath r.0
unfolding path_at
path_at-sound ts r e =
    elim (either (address_number_at ts) (λ n. path_behind_number n.0 n.1) _ r e) [
      | inl s ↦ let n = address_number_at-sound ts s.value s.first in path_behind_number-sound s.value.0 ts s.value.1 r n.0 n.1 s.then
      | inr n ↦
          let i = step (identifier_at ts) (λ i. path_behind_name i.0 i.1) r n.1 in
          let name = identifier_at-sound ts i.value i.first in
          path_behind_name-sound i.value.0 ts i.value.1 r name.0 name.1 i.then
    ]

member_at-complete : (owner : ModuleName) (name : Identifier) (ts rest : List Token) → Begins (identifier name ∷ []) ts rest → IsName name.text → member_at owner ts ≡ Some (full_path owner name, rest)
unfolding member_at
member_at-complete owner name ts rest b p = map_some (identifier_at ts) (λ name. (full_path owner name.0, name.1)) (name, rest) (identifier_at-complete name ts rest b p)

-- a path that begins with a name
begins_with_name : (i : Identifier) (ls : List Lexeme) (ts mid rest : List Token) (r : Path × List Token) → Begins (identifier i ∷ []) ts mid → IsName i.text → path_behind_name i mid ≡ Some r → path_at ts ≡ Some r
unfolding path_at
begins_with_name i ls ts mid rest r b p e =
    map_or_none (address_number_at ts) (λ n. path_behind_number n.0 n.1) _ (address_number_at-other (identifier i) [] ts mid refl b)
    ∙ bind_some (identifier_at ts) (λ i. path_behind_name i.0 i.1) (i, mid) (identifier_at-complete i ts mid b p) ∙ e

two_names : (i j : Identifier) (ts us vs rest : List Token) (r : Path × List Token) → Begins (sign ColonColon ∷ []) ts us → Begins (identifier j ∷ []) us vs → IsName j.text → path_behind_names i j vs ≡ Some r → path_behind_name i ts ≡ Some r
unfolding path_behind_name
two_names i j ts us vs rest r c b p e =
    map_or_some (after_sign ColonColon ts) _ (Some (name_path i, ts)) us (after_sign-complete ColonColon ts us c)
    ∙ bind_some (identifier_at us) (λ second. path_behind_names i second.0 second.1) (j, vs) (identifier_at-complete j us vs b p) ∙ e

full_path-complete : (a : Address) (m n : Identifier) (ts rest : List Token) → Begins (address_spelling a ++ sign ColonColon ∷ identifier m ∷ sign ColonColon ∷ identifier n ∷ []) ts rest → IsProperAddress a → IsName m.text → IsName n.text
    → path_at ts ≡ Some (full_path (record { address = a; name = m }) n, rest)
unfolding path_at path_behind_number path_behind_names
full_path-complete (number_address number) m n ts rest b p q s =
    let a = Begins-first (numeral number) (sign ColonColon ∷ identifier m ∷ sign ColonColon ∷ identifier n ∷ []) ts rest b in
    let c = Begins-first (sign ColonColon) (identifier m ∷ sign ColonColon ∷ identifier n ∷ []) a.mid rest a.back in
    let d = Begins-first (identifier m) (sign ColonColon ∷ identifier n ∷ []) c.mid rest c.back in
    let f = Begins-first (sign ColonColon) (identifier n ∷ []) d.mid rest d.back in
    map_or_some (address_number_at ts) (λ n. path_behind_number n.0 n.1) _ (number, a.mid) (address_number_at-complete number ts a.mid a.front p)
    ∙ bind_some (after_sign ColonColon a.mid) _ c.mid (after_sign-complete ColonColon a.mid c.mid c.front)
    ∙ bind_some (identifier_at c.mid) _ (m, d.mid) (identifier_at-complete m c.mid d.mid d.front q)
    ∙ bind_some (after_sign ColonColon d.mid) _ f.mid (after_sign-complete ColonColon d.mid f.mid f.front)
    ∙ member_at-complete (record { address = number_address number; name = m }) n f.mid rest f.back s
full_path-complete (name_address i) m n ts rest b p q s =
    let a = Begins-first (identifier i) (sign ColonColon ∷ identifier m ∷ sign ColonColon ∷ identifier n ∷ []) ts rest b in
    let c = Begins-first (sign ColonColon) (identifier m ∷ sign ColonColon ∷ identifier n ∷ []) a.mid rest a.back in
    let d = Begins-first (identifier m) (sign ColonColon ∷ identifier n ∷ []) c.mid rest c.back in
    let f = Begins-first (sign ColonColon) (identifier n ∷ []) d.mid rest d.back in
    begins_with_name i [] ts a.mid rest _ a.front p
    (two_names i m a.mid c.mid d.mid rest _ c.front d.front q
    (map_or_some (after_sign ColonColon d.mid) _ _ f.mid (after_sign-complete ColonColon d.mid f.mid f.front) ∙ member_at-complete (record { address = name_address i; name = m }) n f.mid rest f.back s))

-- the spelling of a full path, token by token
full_path-spelled : (a : Address) (m n : Identifier) → path_spelling (full_path (record { address = a; name = m }) n) ≡ address_spelling a ++ sign ColonColon ∷ identifier m ∷ sign ColonColon ∷ identifier n ∷ []
full_path-spelled (number_address number) m n = refl
full_path-spelled (name_address i) m n = refl

pub path_at-complete : (p : Path) (ts rest : List Token) → Begins (path_spelling p) ts rest → IsProperPath p → after_sign ColonColon rest ≡ None → path_at ts ≡ Some (p, rest)
unfolding path_behind_name path_behind_names
path_at-complete (name_path i) ts rest b p e = begins_with_name i [] ts rest rest _ b p (map_or_none (after_sign ColonColon rest) _ (Some (name_path i, rest)) e)
path_at-complete (member_path i j) ts rest b p e =
    let a = Begins-first (identifier i) (sign ColonColon ∷ identifier j ∷ []) ts rest b in
    let c = Begins-first (sign ColonColon) (identifier j ∷ []) a.mid rest a.back in
    begins_with_name i [] ts a.mid rest _ a.front p.0 (two_names i j a.mid c.mid rest rest _ c.front c.back p.1 (map_or_none (after_sign ColonColon rest) _ (Some (member_path i j, rest)) e))
path_at-complete (full_path m n) ts rest b p e =
    full_path-complete m.address m.name n ts rest (subst (λ ls. Begins ls ts rest) (full_path-spelled m.address m.name n) b) p.0.0 p.0.1 p.1

-- ---- how a path begins

abbrev pub OpensPath : TokenKind → Type 0
OpensPath (Word w) = IsName w
OpensPath (Number literal) = literal.suffix ≡ Absent
OpensPath (ByteString text) = ⊥
OpensPath (Punctuation s) = ⊥

pub record Opened (Opens : TokenKind → Type 0) (ts rest : List Token) : Type 0 where
  pub lexeme : Lexeme
  pub others : List Lexeme
  pub begins : Begins (lexeme ∷ others) ts rest
  pub opens : Opens lexeme.kind

opened_by : (a : Address) (ls : List Lexeme) (ts rest : List Token) → Begins (address_spelling a ++ ls) ts rest → IsProperAddress a → Opened OpensPath ts rest
opened_by (number_address n) ls ts rest b p = record { lexeme = numeral n; others = ls; begins = b; opens = p }
opened_by (name_address i) ls ts rest b p = record { lexeme = identifier i; others = ls; begins = b; opens = p }

pub path_opens : (p : Path) (ls : List Lexeme) (ts rest : List Token) → Begins (path_spelling p ++ ls) ts rest → IsProperPath p → Opened OpensPath ts rest
path_opens (name_path i) ls ts rest b p = record { lexeme = identifier i; others = ls; begins = b; opens = p }
path_opens (member_path i j) ls ts rest b p = record { lexeme = identifier i; others = sign ColonColon ∷ identifier j ∷ ls; begins = b; opens = p.0 }
path_opens (full_path m n) ls ts rest b p = opened_by m.address (sign ColonColon ∷ identifier m.name ∷ sign ColonColon ∷ identifier n ∷ ls) ts rest (subst (λ l. Begins l ts rest) (regroup m.address m.name n ls) b) p.0.0
  where
    regroup : (a : Address) (m n : Identifier) (ls : List Lexeme) → path_spelling (full_path (record { address = a; name = m }) n) ++ ls ≡ address_spelling a ++ (sign ColonColon ∷ identifier m ∷ sign ColonColon ∷ identifier n ∷ ls)
    regroup (number_address number) m n ls = refl
    regroup (name_address i) m n ls = refl

pub opens_no_sign : (s : Sign) (kind : TokenKind) → OpensPath kind → is_sign s kind ≡ false
opens_no_sign s (Word w) o = refl
opens_no_sign s (Number literal) o = refl
opens_no_sign s (ByteString text) o = absurd o
opens_no_sign s (Punctuation found) o = absurd o

pub opens_no_word : (w : List ℕ) (kind : TokenKind) → is_keyword w ≡ true → OpensPath kind → is_word w kind ≡ false
opens_no_word w (Word name) k o = name_is_no_keyword name w k o
opens_no_word w (Number literal) k o = refl
opens_no_word w (ByteString text) k o = absurd o
opens_no_word w (Punctuation found) k o = absurd o

pub path_no_sign : (s : Sign) (p : Path) (ls : List Lexeme) (ts rest : List Token) → Begins (path_spelling p ++ ls) ts rest → IsProperPath p → after_sign s ts ≡ None
path_no_sign s p ls ts rest b q = let o = path_opens p ls ts rest b q in after_sign-other s o.lexeme o.others ts rest (opens_no_sign s o.lexeme.kind o.opens) o.begins

pub path_no_word : (w : List ℕ) (p : Path) (ls : List Lexeme) (ts rest : List Token) → is_keyword w ≡ true → Begins (path_spelling p ++ ls) ts rest → IsProperPath p → after_word w ts ≡ None
path_no_word w p ls ts rest k b q = let o = path_opens p ls ts rest b q in after_word-other w o.lexeme o.others ts rest (opens_no_word w o.lexeme.kind k o.opens) o.begins

-- ---- a single word

pub is_single-sound : (w : List ℕ) (p : Path) → is_single w p ≡ false → IsOther w p
is_single-sound w (name_path n) e = λ h. differs (sym (ap (λ v. same_name v w) h ∙ same_name-same w) ∙ e)
  where
    differs : true ≡ false → ⊥
    differs h = cc
is_single-sound w (member_path m n) e = tt
is_single-sound w (full_path m n) e = tt

pub is_single-complete : (w : List ℕ) (p : Path) → IsOther w p → is_single w p ≡ false
is_single-complete w (name_path n) o = same_name-other n.text w o
is_single-complete w (member_path m n) o = refl
is_single-complete w (full_path m n) o = refl

pub is_single-name : (w : List ℕ) (p : Path) → is_single w p ≡ true → (n : Identifier) → p ≡ name_path n → n.text ≡ w
is_single-name w p e n is = same_text n.text w (sym (sym (ap (is_single w) is) ∙ e))
