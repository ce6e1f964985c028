use Rattle.std.proofs.Common.{arith}
use Rattle.script.specs.Puts.{put_part}
use Rattle.script.proofs.replies.put.Goals as goal

pub returns : goal.returns
returns c = put_part _ _ _ _ _ c.copy_from_slice.ensures.after (omega arith) c.requires
