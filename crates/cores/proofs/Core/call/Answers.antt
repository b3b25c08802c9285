use Rattle.cores.proofs.Laws.Makes.{makes_full, makes_call}
use Rattle.cores.proofs.Core.call.Goals as goal

pub returns-then-self-ge-MAX_FRAMES : goal.returns-then-self-ge-MAX_FRAMES
returns-then-self-ge-MAX_FRAMES c =
    makes_full c.args.self c.put.result c.args.c c.args.script c.args.b c.args.a c.args.returns c.requires.0 c.if-self-ge-MAX_FRAMES.true c.put.ensures

pub returns : goal.returns
returns c =
    makes_call c.args.self c.pass-m.result c.causing.result c.args.c c.args.script c.args.b c.args.a c.args.returns c.slot_of.result c.answer_of.result c.way_of.result c.register-parameter.result
    c.requires.0 c.pass-m.ensures c.if-self-ge-MAX_FRAMES.false c.register-parameter.ensures c.requires.1 c.requires.2 c.slot_of.ensures c.answer_of.ensures c.way_of.ensures c.causing.ensures
