use Rattle.std.proofs.Common.{◌≡◌, ◌∙◌, ap, subst}
use Rattle.std.specs.Prelude.{codes, OnOk}
use Rattle.indexmap.specs.IndexSet.{insert_key}
use Rattle.scopes.specs.EnvironmentData.{EnvironmentData, with_declared}
use Rattle.scopes.specs.MemberNames.{same_declaration}
use Rattle.scopes.specs.declared.member.Declaration.{Declaration}
use Rattle.scopes.specs.Program.{builtin_declaration}
use Rattle.scopes.proofs.modules.sources.declare_builtins.Goals as goal

abbrev with_one : Declaration → EnvironmentData → EnvironmentData
with_one d e = with_declared e (insert_key same_declaration e.declared d)

pub returns : goal.returns
returns c =
    let e1 = c.in_ok-declare_function.ensures in
    let e2 = c.in_ok-declare_function-2.ensures ∙ ap (with_one (builtin_declaration (codes "vector") (codes "length"))) e1 in
    let e3 = c.in_ok-declare_function-3.ensures ∙ ap (with_one (builtin_declaration (codes "vector") (codes "borrow"))) e2 in
    let e4 = c.in_ok-declare_function-4.ensures ∙ ap (with_one (builtin_declaration (codes "vector") (codes "push_back"))) e3 in
    let e5 = c.in_ok-declare_function-5.ensures ∙ ap (with_one (builtin_declaration (codes "vector") (codes "borrow_mut"))) e4 in
    let e6 = c.in_ok-declare_function-6.ensures ∙ ap (with_one (builtin_declaration (codes "vector") (codes "pop_back"))) e5 in
    let e7 = c.in_ok-declare_function-7.ensures ∙ ap (with_one (builtin_declaration (codes "vector") (codes "destroy_empty"))) e6 in
    let e8 = c.in_ok-declare_function-8.ensures ∙ ap (with_one (builtin_declaration (codes "vector") (codes "swap"))) e7 in
    subst (λ e. OnOk c.declare_function-9.result (c.declare_function-9.new.environment ≡ with_one (builtin_declaration (codes "signer") (codes "address_of")) e)) e8 c.declare_function-9.ensures
