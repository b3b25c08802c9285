use Rattle.session.proofs.Laws.Contents.{rises}
use Rattle.contents.proofs.Session.object_count.Goals as goal

pub count_kinds-requires : goal.count_kinds-requires
count_kinds-requires c = rises c.args.self.now.bytes.now c.args.self.now.accepted
