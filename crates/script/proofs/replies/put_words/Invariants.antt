use Rattle.std.proofs.Common.{◌≡◌, ◌+◌, ◌*◌, ◌≤◌, length, take}
use Rattle.script.specs.Reply.{words as words_of}
use Rattle.script.specs.Puts.{Wrote}
use Rattle.script.proofs.replies.put_words.Given as goal

abbrev pub invariant-loop-w : goal.invariant-loop-w
invariant-loop-w l = record {
  size : length l.out ≡ length l.initial.out;
  bound : l.next ≤ l.at + 11 * l.w-index;
  wrote : Wrote l.initial.out l.at (words_of (take l.w-index l.words)) l.next l.out;
}
