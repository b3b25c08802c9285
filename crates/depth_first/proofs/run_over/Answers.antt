use Rattle.progress.proofs.Laws.Session.{tables}
use Rattle.depth_first.specs.Runs.{initial_progress}
use Rattle.depth_first.proofs.Laws.Whole.{root_runnable, root_room, write_ready, run_shown}
use Rattle.depth_first.proofs.run_over.Goals as goal

pub run_manager-requires : goal.run_manager-requires
run_manager-requires c =
    let s = c.args.session.now in
    let f = c.root_fork-root in
    record {
      represents_some = (initial_progress s.bytes.now, c.requires.represents);
      runnable = (
        root_runnable s.bytes.now s.masks.now s.index.now (tables s) f.result f.ensures,
        root_room s.bytes.now s.masks.now s.index.now (tables s) f.result f.ensures c.args.progress.now c.requires.represents,
      );
    }

pub write-requires : goal.write-requires
write-requires c =
    let s = c.args.session.now in
    let f = c.root_fork-root in
    let r = c.run_manager in
    write_ready s.bytes.now s.masks.now s.index.now (tables s) f.result f.ensures c.args.progress.now r.new.progress r.result c.requires.represents r.ensures c.args.res.now c.requires.result_bytes_in_bounds

pub returns : goal.returns
returns c =
    let s = c.args.session.now in
    let f = c.root_fork-root in
    let r = c.run_manager in
    let t = c.write in
    run_shown s.bytes.now s.masks.now s.index.now (tables s) f.result f.ensures c.args.progress.now r.new.progress r.result c.requires.represents r.ensures c.args.clearance t.result c.args.res.now t.new.res t.ensures
