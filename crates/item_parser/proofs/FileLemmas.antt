-- Modules and files are read exactly.
use Rattle.std.proofs.Common.{◌≡◌, ℕ, suc, ◌<◌, ◌≤◌, List, [], ◌∷◌, ◌++◌, Some, None, length, refl, sym, ap, subst, ◌∙◌, arith, append_assoc, length-append}
use Rattle.std.specs.Prelude.{codes, map, is_some}
use Rattle.std.specs.List.{AllByRecursion, flat_map}
use Rattle.tokens.specs.declared.token.Token.{Token}
use Rattle.tokens.specs.declared.token.Punctuation.TheVariants.{LeftBrace, RightBrace, LeftBracket, RightBracket, NumberSign}
use Rattle.syntax_tree.specs.declared.lexeme.Lexeme.{Lexeme}
use Rattle.syntax_tree.specs.Lexemes.{word, sign, sign_at}
use Rattle.syntax_tree.specs.PathSpelling.{module_spelling}
use Rattle.syntax_tree.specs.SpecTokenSpelling.{kept}
use Rattle.syntax_tree.specs.declared.member.Attribute.{Attribute}
use Rattle.syntax_tree.specs.FileData.{MemberData, ModuleData}
use Rattle.syntax_tree.specs.MemberSpelling.{attribute_spelling, form_spelling, member_spelling, module_tree_spelling, file_spelling}
use Rattle.syntax_tree.specs.ProperMembers.{IsProperMember, IsProperModule, IsProperFile}
use Rattle.parser_base.specs.Beginnings.{Begins}
use Rattle.parser_base.specs.TokenReading.{after_sign, word_span_at}
use Rattle.parser_base.proofs.Steps.{step, last, if_not, bind_some, map_some, cond_false, cond_true}
use Rattle.parser_base.proofs.BeginLemmas.{Begins-append, Begins-split, Begins-first, Begins-same, length-Begins}
use Rattle.parser_base.proofs.TokenLemmas.{after_sign-sound, after_sign-complete, after_sign-other, word_span_at-sound, word_span_at-complete}
use Rattle.parser_base.specs.PathReading.{module_name_at}
use Rattle.parser_base.proofs.PathLemmas.{module_name_at-sound, module_name_at-complete}
use Rattle.item_parser.specs.AttributeReading.{attributes_at}
use Rattle.parser_base.specs.RepeatReading.{repeat_at}
use Rattle.item_parser.proofs.AttributeLemmas.{attributes_at-sound, attributes_at-complete}
use Rattle.parser_base.proofs.RepeatLemmas.{Opening, repeat_at-sound, repeat_at-complete}
use Rattle.item_parser.specs.MemberReading.{member_at}
use Rattle.item_parser.specs.FileReading.{before_member, members_at, module_behind, before_module, at_end, file_at}
use Rattle.item_parser.proofs.MemberLemmas.{member_at-sound, member_at-complete, form_no_sign, form_some}

-- ---- members

before_member-sound : (ts us : List Token) → before_member ts ≡ Some us → ts ≡ us
unfolding before_member
before_member-sound ts us e = (if_not (is_some (after_sign RightBrace ts)) ts us e).1

members_at-sound : (n : ℕ) (ts : List Token) (r : List MemberData × List Token) → members_at n ts ≡ Some r → Begins (flat_map member_spelling r.0) ts r.1 × AllByRecursion IsProperMember r.0
unfolding members_at
members_at-sound n ts r e =
    repeat_at-sound before_member (member_at n) member_spelling IsProperMember
    (λ ts us r o i. subst (λ vs. Begins (member_spelling r.0) vs r.1 × IsProperMember r.0) (sym (before_member-sound ts us o)) (member_at-sound n us r i)) (length ts) ts r e

-- no member begins with a brace
attributes_first : (xs : List Attribute) (ls : List Lexeme) (ts rest : List Token) → Begins (flat_map attribute_spelling xs ++ ls) ts rest → ((us : List Token) → Begins ls us rest → after_sign RightBrace us ≡ None) → after_sign RightBrace ts ≡ None
attributes_first [] ls ts rest b f = f ts b
attributes_first (x ∷ xs) ls ts rest b f =
    after_sign-other RightBrace (sign_at x.span NumberSign) (((sign LeftBracket ∷ map kept x.tokens ++ sign RightBracket ∷ []) ++ flat_map attribute_spelling xs) ++ ls) ts rest refl b

member_no_brace : (m : MemberData) (ts rest : List Token) → Begins (member_spelling m) ts rest → IsProperMember m → after_sign RightBrace ts ≡ None
member_no_brace m ts rest b p = attributes_first m.attributes (form_spelling m.form) ts rest b (λ us c. form_no_sign RightBrace m.form us rest p.1 c)

member_some : (m : MemberData) → IsProperMember m → 0 < length (member_spelling m)
member_some m p = omega (arith, length-append (flat_map attribute_spelling m.attributes) (form_spelling m.form), form_some m.form p.1)

members_at-complete : (n : ℕ) (xs : List MemberData) (ts rest inside : List Token) → length ts ≤ suc n → Begins (flat_map member_spelling xs) ts rest → AllByRecursion IsProperMember xs → after_sign RightBrace rest ≡ Some inside → members_at (suc n) ts ≡ Some (xs, rest)
unfolding members_at before_member
members_at-complete n xs ts rest inside h b p e =
    repeat_at-complete before_member (member_at (suc n)) member_spelling IsProperMember (suc n)
    (λ m ts rest h b p. record {
      value = ts;
      first = cond_false (is_some (after_sign RightBrace ts)) None (Some ts) (ap (λ o. is_some {T = List Token} o) (member_no_brace m ts rest b p));
      then = member_at-complete n m ts rest h b p;
    }) member_some (length ts) xs ts rest (omega arith) h b p (cond_true (is_some (after_sign RightBrace rest)) None (Some rest) (ap (λ o. is_some {T = List Token} o) e))

-- ---- modules

module_spelled : (a : List Lexeme) (w : Lexeme) (m l : List Lexeme) → ((a ++ w ∷ m) ++ sign LeftBrace ∷ l) ++ sign RightBrace ∷ [] ≡ a ++ w ∷ (m ++ sign LeftBrace ∷ (l ++ sign RightBrace ∷ []))
module_spelled a w m l = append_assoc (a ++ w ∷ m) (sign LeftBrace ∷ l) (sign RightBrace ∷ []) ∙ append_assoc a (w ∷ m) (sign LeftBrace ∷ (l ++ sign RightBrace ∷ []))

module_behind-sound : (n : ℕ) (ts : List Token) (r : ModuleData × List Token) → module_behind n ts ≡ Some r → Begins (module_tree_spelling r.0) ts r.1 × IsProperModule r.0
unfolding module_behind
module_behind-sound n ts r e =
    let a = step (attributes_at ts) _ r e in
    let w = step (word_span_at (codes "module") a.value.1) _ r a.then in
    let m = step (module_name_at w.value.1) _ r w.then in
    let o = step (after_sign LeftBrace m.value.1) _ r m.then in
    let x = step (members_at n o.value) _ r o.then in
    let l = last (after_sign RightBrace x.value.1) _ r x.then in
    let attributes = attributes_at-sound ts a.value a.first in
    let name = module_name_at-sound w.value.1 m.value m.first in
    let members = members_at-sound n o.value x.value x.first in
    let inside = flat_map member_spelling x.value.0 ++ sign RightBrace ∷ [] in
    subst (λ q. Begins (module_tree_spelling q.0) ts q.1 × IsProperModule q.0) l.then (
      Begins-same _ _ ts l.value (sym (module_spelled (flat_map attribute_spelling a.value.0) (word (codes "module") (Some w.value.0)) (module_spelling m.value.0) (flat_map member_spelling x.value.0)))
          (Begins-append (flat_map attribute_spelling a.value.0) (word (codes "module") (Some w.value.0) ∷ (module_spelling m.value.0 ++ sign LeftBrace ∷ inside)) ts a.value.1 l.value attributes.0
          (Begins-append (word (codes "module") (Some w.value.0) ∷ []) (module_spelling m.value.0 ++ sign LeftBrace ∷ inside) a.value.1 w.value.1 l.value (word_span_at-sound (codes "module") a.value.1 w.value w.first)
          (Begins-append (module_spelling m.value.0) (sign LeftBrace ∷ inside) w.value.1 m.value.1 l.value name.0
          (Begins-append (sign LeftBrace ∷ []) inside m.value.1 o.value l.value (after_sign-sound LeftBrace m.value.1 o.value o.first)
          (Begins-append (flat_map member_spelling x.value.0) (sign RightBrace ∷ []) o.value x.value.1 l.value members.0 (after_sign-sound RightBrace x.value.1 l.value l.first)))))),
      (attributes.1, name.1, members.1),
    )

module_behind-complete : (n : ℕ) (m : ModuleData) (ts rest : List Token) → length ts ≤ suc n → Begins (module_tree_spelling m) ts rest → IsProperModule m → module_behind (suc n) ts ≡ Some (m, rest)
unfolding module_behind
module_behind-complete n m ts rest h b p =
    let inside = flat_map member_spelling m.members ++ sign RightBrace ∷ [] in
    let w = word (codes "module") (Some m.span) in
    let a = Begins-split (flat_map attribute_spelling m.attributes) (w ∷ (module_spelling m.name ++ sign LeftBrace ∷ inside)) ts rest
    (Begins-same _ _ ts rest (module_spelled (flat_map attribute_spelling m.attributes) w (module_spelling m.name) (flat_map member_spelling m.members)) b) in
    let k = Begins-first w (module_spelling m.name ++ sign LeftBrace ∷ inside) a.mid rest a.back in
    let x = Begins-split (module_spelling m.name) (sign LeftBrace ∷ inside) k.mid rest k.back in
    let o = Begins-first (sign LeftBrace) inside x.mid rest x.back in
    let c = Begins-split (flat_map member_spelling m.members) (sign RightBrace ∷ []) o.mid rest o.back in
    let end = after_sign-complete RightBrace c.mid rest c.back in
    let l : length o.mid ≤ suc n = omega (arith, h, length-Begins (flat_map attribute_spelling m.attributes) ts a.mid a.front, length-Begins (w ∷ []) a.mid k.mid k.front, length-Begins (module_spelling m.name) k.mid x.mid x.front, length-Begins (sign LeftBrace ∷ []) x.mid o.mid o.front) in
    bind_some (attributes_at ts) _ (m.attributes, a.mid) (attributes_at-complete m.attributes ts a.mid a.front p.0 (after_sign-other NumberSign w [] a.mid k.mid refl k.front))
    ∙ bind_some (word_span_at (codes "module") a.mid) _ (m.span, k.mid) (word_span_at-complete (codes "module") m.span a.mid k.mid k.front)
    ∙ bind_some (module_name_at k.mid) _ (m.name, x.mid) (module_name_at-complete m.name k.mid x.mid x.front p.1)
    ∙ bind_some (after_sign LeftBrace x.mid) _ o.mid (after_sign-complete LeftBrace x.mid o.mid o.front)
    ∙ bind_some (members_at (suc n) o.mid) _ (m.members, c.mid) (members_at-complete n m.members o.mid c.mid rest l c.front p.2 end)
    ∙ map_some (after_sign RightBrace c.mid) (λ rest. (m, rest)) rest end

module_some : (m : ModuleData) → 0 < length (module_tree_spelling m)
module_some m =
    omega (arith, length-append ((flat_map attribute_spelling m.attributes ++ word (codes "module") (Some m.span) ∷ module_spelling m.name) ++ sign LeftBrace ∷ flat_map member_spelling m.members) (sign RightBrace ∷ []))

-- ---- files

before_module-sound : (ts us : List Token) → before_module ts ≡ Some us → ts ≡ us
before_module-sound [] us e = absurd (cc)
before_module-sound (t ∷ ts) us e = cc

at_end-sound : (xs : List ModuleData) (ts : List Token) (ys : List ModuleData) → at_end xs ts ≡ Some ys → (xs ≡ ys) × (ts ≡ [])
at_end-sound xs [] ys e = (cc, refl)
at_end-sound xs (t ∷ ts) ys e = absurd (cc)

pub file_at-sound : (n : ℕ) (ts : List Token) (xs : List ModuleData) → file_at n ts ≡ Some xs → Begins (file_spelling xs) ts [] × IsProperFile xs
unfolding file_at
file_at-sound n ts xs e =
    let s = step (repeat_at before_module (module_behind n) (length ts) ts) (λ modules. at_end modules.0 modules.1) xs e in
    let d = at_end-sound s.value.0 s.value.1 xs s.then in
    let r = repeat_at-sound before_module (module_behind n) module_tree_spelling IsProperModule
    (λ ts us r o i. subst (λ vs. Begins (module_tree_spelling r.0) vs r.1 × IsProperModule r.0) (sym (before_module-sound ts us o)) (module_behind-sound n us r i)) (length ts) ts s.value s.first in
    (subst (λ ys. Begins (file_spelling ys) ts []) d.0 (subst (Begins (file_spelling s.value.0) ts) d.1 r.0), subst IsProperFile d.0 r.1)

module_opening : (n : ℕ) (m : ModuleData) (ts rest : List Token) → length ts ≤ suc n → Begins (module_tree_spelling m) ts rest → IsProperModule m → Opening before_module (module_behind (suc n)) m ts rest
module_opening n m [] rest h b p = absurd (omega (arith, length-Begins (module_tree_spelling m) [] rest b, module_some m))
module_opening n m (t ∷ ts) rest h b p = record { value = t ∷ ts; first = refl; then = module_behind-complete n m (t ∷ ts) rest h b p }

pub file_at-complete : (n : ℕ) (xs : List ModuleData) (ts : List Token) → length ts ≤ suc n → Begins (file_spelling xs) ts [] → IsProperFile xs → file_at (suc n) ts ≡ Some xs
unfolding file_at
file_at-complete n xs ts h b p =
    bind_some (repeat_at before_module (module_behind (suc n)) (length ts) ts) (λ modules. at_end modules.0 modules.1) (xs, [])
    (repeat_at-complete before_module (module_behind (suc n)) module_tree_spelling IsProperModule (suc n) (module_opening n) (λ m p. module_some m) (length ts) xs ts [] (omega arith) h b p refl)
