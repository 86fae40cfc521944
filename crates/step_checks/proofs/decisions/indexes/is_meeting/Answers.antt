use Rattle.std.proofs.Common.{sym, ◌∙◌}
use Rattle.step_checks.proofs.ReadLemmas.{no_meeting, other_class, meeting_so}
use Rattle.step_checks.proofs.decisions.indexes.is_meeting.Goals as goal

pub returns-in_default : goal.returns-in_default
returns-in_default c = no_meeting c.args.pool.now c.args.classes.now c.args.groups.now c.args.reads.now c.args.one c.args.other c.args.number c.in_default.ensures

pub class-requires : goal.class-requires
class-requires c = c.requires.position (c.in-Some.from, c.in-Some.position) c.in-Some.ensures

pub bounds-groups-from : goal.bounds-groups-from
bounds-groups-from c = c.requires.from (c.in-Some.from, c.in-Some.position) c.in-Some.ensures

pub returns-then-class-one : goal.returns-then-class-one
returns-then-class-one c =
    other_class c.args.pool.now c.args.classes.now c.args.groups.now c.args.reads.now c.args.one c.args.other c.args.number (c.in-Some.from, c.in-Some.position) c.in-Some.ensures (λ e. c.if-class-one.true (c.class.ensures ∙ e))

pub returns : goal.returns
returns c =
    meeting_so c.args.pool.now c.args.classes.now c.args.groups.now c.args.reads.now c.args.one c.args.other c.args.number (c.in-Some.from, c.in-Some.position) c.in-Some.ensures (sym c.class.ensures ∙ c.if-class-one.false) c.has.result c.has.ensures
