use Rattle.script.specs.Puts.{word_done}
use Rattle.script.proofs.replies.put_word.Goals as goal

pub returns : goal.returns
returns c =
    let d : _ = word_done c.args.n c.ranges.n.fits c.put-next.ensures c.put_number.ensures in
    record { wrote = d.0; upper_bound = d.1 }
