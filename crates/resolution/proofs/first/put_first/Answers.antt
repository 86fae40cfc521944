use Rattle.resolution.proofs.TableLaws.{put_stays}
use Rattle.resolution.proofs.first.put_first.Goals as goal

pub returns : goal.returns
returns g c = put_stays g.K.PartialEq.eq c.args.table.now c.put.new.self c.args.name c.args.declaration c.in_ok-_is_new._is_new c.in_ok-_is_new.ensures.new c.in_ok-_is_new.ensures.put
