use Rattle.std.proofs.Common.{◌∙◌, arith, sym}
use Rattle.body_names.proofs.NameListLaws.{index_next, on_ok}
use Rattle.body_names.proofs.spec.name_list.push_both.Goals as goal

pub returns-clause-index : goal.returns-clause-index
returns-clause-index c =
    let ok = on_ok c.insert.result (sym c.is_err.ensures.value ∙ c.if-is_err.false) in
    index_next c.args.last.now.entries c.insert.new.self.entries c.args.names.now.items c.push.new.self.items c.args.name c.args.copy c.len-position.result c.requires.index c.in_ok-push.ensures.items c.requires.same (omega (arith, c.args.names.now.ok.0, c.len-position.ensures)) (ok c.insert.ensures.updates).0
