use Rattle.std.proofs.Common.{refl, ◌∙◌, arith}
use Rattle.script.specs.Puts.{wrote_size, words_none, words_more}
use Rattle.script.proofs.replies.put_words.Goals as goal

pub loop-w-init : goal.loop-w-init
loop-w-init c = record { size = refl; bound = omega arith; wrote = words_none _ c.args.words.now _ (omega arith) }

pub loop-w-preserved : goal.loop-w-preserved
loop-w-preserved c = record {
  size = wrote_size c.put_word-next.ensures.wrote ∙ c.loop-w.invariant.size;
  bound = omega (arith, c.put_word-next.ensures.upper_bound.1 (omega arith));
  wrote = words_more c.args.words.now c.loop-w.w-index _ c.loop-w-test.true c.from.ensures c.loop-w.invariant.wrote c.put_word-next.ensures.wrote;
}
