use Rattle.opening.proofs.Laws.Opening.{refused_level, refused_work, refused_room, refused_none}
use Rattle.opening.proofs.lent_refusal.Goals as goal

pub returns-then-clearance-levels : goal.returns-then-clearance-levels
returns-then-clearance-levels c =
    refused_level c.args.levels c.args.clearance c.args.ten c.args.bytes c.if-clearance-levels.true

pub returns-then-not-ten : goal.returns-then-not-ten
returns-then-not-ten c =
    refused_work c.args.levels c.args.clearance c.args.ten c.args.bytes c.if-clearance-levels.false (c.if-not-ten.true)

pub returns-then-bytes-lt-RESULT_BYTES : goal.returns-then-bytes-lt-RESULT_BYTES
returns-then-bytes-lt-RESULT_BYTES c =
    refused_room c.args.levels c.args.clearance c.args.ten c.args.bytes c.if-clearance-levels.false (c.if-not-ten.false) c.if-bytes-lt-RESULT_BYTES.true

pub returns : goal.returns
returns c =
    refused_none c.args.levels c.args.clearance c.args.ten c.args.bytes c.if-clearance-levels.false (c.if-not-ten.false) c.if-bytes-lt-RESULT_BYTES.false
