use Rattle.fields.specs.Limits.{field_words}
use Rattle.histories.specs.Limits.{history_words}
use Rattle.depth_first.proofs.Laws.Start.{zeros, long, kept_start}
use Rattle.depth_first.proofs.run.Goals as goal

pub run_over-requires : goal.run_over-requires
run_over-requires c =
    let s = c.new-session.result in record {
      represents = kept_start s.bytes.now s.accepted _ _ _ _ c.fill.ensures (long field_words) (zeros field_words) (long history_words) c.first.ensures;
      result_bytes_in_bounds = c.requires.2;
    }

pub returns : goal.returns
returns c = rw c.new-session.ensures at c.run_over.ensures.shown
