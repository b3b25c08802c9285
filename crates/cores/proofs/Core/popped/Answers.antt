use mathlib.Core.Path.{refl, ◌∙◌, ap}
use mathlib.Core.Bool.{cond}
use Rattle.std.specs.Prelude.{None}
use Rattle.scripts.specs.Frame.{with_register}
use Rattle.frames.proofs.Laws.Frames.{register-placed}
use Rattle.frames.specs.Frames.{into_of, returns_of, frame_of}
use Rattle.cores.proofs.Core.popped.Goals as goal

pub returns : goal.returns
returns c =
    let f = c.args.self.top in
    let a = c.answered-top in
    let w = c.woken-sender in
    let v = cond (returns_of f.answer) c.args.reply None in
    record {
      core_is = refl;
      top_is = a.ensures.frame ∙ ap (λ g. with_register g (into_of f.answer) v) (ap frame_of w.ensures.0);
      answer_is = a.ensures.same.answer ∙ ap (λ g. g.answer) w.ensures.0;
      top_placed = register-placed c.args.session.now.bytes.now w.result a.result (into_of f.answer) v a.ensures w.ensures.1;
    }
