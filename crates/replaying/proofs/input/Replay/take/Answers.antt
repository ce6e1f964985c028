use Rattle.replaying.specs.Calls.{sound}
use Rattle.replaying.proofs.input.Replay.take.Goals as goal

pub answer-requires : goal.answer-requires
answer-requires c = sound c.parse-call.ensures
