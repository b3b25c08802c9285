use Rattle.progress.proofs.Laws.Changes.{change_writable, change_done}
use Rattle.progress.proofs.Progress.change.Goals as goal

pub write-requires : goal.write-requires
write-requires c =
    change_writable c.requires.changeable c.change-made.ensures c.args.self.now.tallies c.requires.counted

pub returns : goal.returns
returns c =
    let x = c.write in
    record {
      change_done = change_done c.requires.changeable c.change-made.ensures c.args.self.now.tallies x.new.self.current x.new.self.tallies x.ensures.written;
      ended_stays = x.ensures.ended_stays;
    }
