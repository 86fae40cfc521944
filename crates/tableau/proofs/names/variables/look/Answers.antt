use Rattle.std.proofs.Common.{◌≡◌, ◌+◌, ◌-◌, ◌<◌, length, take, Some, sym, ap, ◌∙◌, arith}
use Rattle.std.specs.Prelude.{slice_get}
use Rattle.std.proofs.lemmas.List.{length_push, take_all}
use Rattle.std.proofs.lemmas.Option.{slice_get_within}
use Rattle.tableau.specs.Variables.{above_entries}
use Rattle.tableau.proofs.NamesListLemmas.{past_end}
use Rattle.tableau.proofs.VariablesLemmas.{node_read, above_next, entries_more, names_more}
use Rattle.tableau.proofs.names.variables.look.Goals as goal

pub index-requires : goal.index-requires
index-requires c =
    let within = (c.requires.over.formulas c.len.result c.in-Some.entry (sym c.in-Some.ensures)).within in
    omega (arith, within, c.in_ok-look_at_nodes.ensures.all, c.look_at_nodes.new.nodes.ok.0)

pub loop-entry-smaller : goal.loop-entry-smaller
loop-entry-smaller c =
    let at : c.len.result ≡ length c.loop-entry.entries.items = c.len.ensures ∙ c.loop-entry.entries.ok.0 in
    let within = slice_get_within c.args.branch.now.entries c.len.result c.in-Some.entry (sym c.in-Some.ensures) in
    let longer : length c.push.new.self.items ≡ length c.loop-entry.entries.items + 1 = ap length c.in_ok-push.ensures.items ∙ length_push c.loop-entry.entries.items c.max-above.result in
    let less : length c.args.branch.now.entries - length c.push.new.self.items < length c.args.branch.now.entries - length c.loop-entry.entries.items = omega (arith, at, within, longer) in
    less

pub loop-entry-preserved : goal.loop-entry-preserved
loop-entry-preserved c =
    let es = c.args.branch.now.entries in
    let xs = c.loop-entry.entries.items in
    let at : c.len.result ≡ length c.loop-entry.entries.items = c.len.ensures ∙ c.loop-entry.entries.ok.0 in
    let found : slice_get c.args.branch.now.entries (length c.loop-entry.entries.items) ≡ Some c.in-Some.entry = ap (slice_get c.args.branch.now.entries) (sym at) ∙ sym c.in-Some.ensures in
    let number = c.requires.over.formulas c.len.result c.in-Some.entry (sym c.in-Some.ensures) in
    let longer : length c.push.new.self.items ≡ length c.loop-entry.entries.items + 1 = ap length c.in_ok-push.ensures.items ∙ length_push c.loop-entry.entries.items c.max-above.result in
    let seen : c.in-Some.entry.formula < length c.look_at_nodes.new.nodes.items = (let w = number.within in omega (arith, w, c.in_ok-look_at_nodes.ensures.all)) in
    let read = node_read c.args.pool.now c.look_at_nodes.new.nodes.items c.in_ok-look_at_nodes.ensures.above c.in-Some.entry.formula c.index.result.now seen c.index.ensures in
    let next = above_next c.args.pool.now es (length xs) c.in-Some.entry c.loop-entry.above c.max-above.result c.index.result.now found number c.loop-entry.invariant.above read c.max-above.ensures in
    record {
      entries = entries_more c.args.pool.now es xs c.push.new.self.items c.max-above.result c.in_ok-push.ensures.items (slice_get_within es (length xs) c.in-Some.entry found) next c.loop-entry.invariant.entries;
      names = names_more es (length xs) c.in-Some.entry c.loop-entry.names c.write.new.self c.len-in-Some.result c.name_key-key.result (length c.push.new.self.items) found c.loop-entry.invariant.names c.name_key-key.ensures.is c.in_ok-write.ensures longer;
      above = next ∙ ap (λ k. above_entries c.args.pool.now (take k es)) (sym longer);
    }

pub returns-clause-all : goal.returns-clause-all
returns-clause-all c =
    let past = past_end c.args.branch.now.entries c.len.result c.in_default.ensures in
    omega (arith, past, c.len.ensures, c.loop-entry.entries.ok.0)

pub returns-clause-is : goal.returns-clause-is
returns-clause-is c =
    let past = past_end c.args.branch.now.entries c.len.result c.in_default.ensures in
    c.loop-entry.invariant.above ∙ ap (above_entries c.args.pool.now) (take_all (length c.loop-entry.entries.items) c.args.branch.now.entries (omega (arith, past, c.len.ensures, c.loop-entry.entries.ok.0)))
