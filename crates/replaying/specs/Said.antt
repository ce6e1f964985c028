-- What it means that a line is answered (oracle/README.md has the grammar): its call is made, and the line that tells the answer is put behind the answers that are not
-- written out yet, or at the start of the room where those have just been written out.
-- Assumes nothing.
use Rattle.std.specs.Prelude.{List, ◌⊎◌, ◌≡◌, ◌+◌, ◌*◌, ◌<◌, ◌≤◌, ℕ, length, take}
use Rattle.std.proofs.Common.{inl, inr, arith}
use Rattle.lists.specs.Tests.{lt_or}
use Rattle.script.specs.Puts.{Wrote}
use Rattle.script.specs.Reply.{reply_line}
use Rattle.script.specs.declared.Call.{Call}
use Rattle.replaying.specs.Calls.{MadeBy}
use Rattle.replaying.specs.declared.Told.{Told}

-- answers of more than 65,536 bytes are written out, and the next one stands at the start
pub record Room (at start : ℕ) : Type 0 where
  pub short : at ≤ 65536 → start ≡ at
  pub long : 65536 < at → start ≡ 0

-- the line that tells an answer: its words stand at the start of the list
abbrev pub told_line : Told → List ℕ → List ℕ
told_line t list = reply_line t.reply (take t.words list)

pub record Said (out : List ℕ) (at : ℕ) (told : Told) (list : List ℕ) (at' : ℕ) (out' : List ℕ) : Type 0 where
  pub start : ℕ
  pub room : Room at start
  pub line : Wrote out start (told_line told list) at' out'

pub record Answers (c : Call) (ws list out : List ℕ) (at : ℕ) (ws' list' out' : List ℕ) (at' : ℕ) : Type 0 where
  pub told : Told
  pub made : MadeBy c.verb c ws list told ws' list'
  pub said : Said out at told list' at' out'

-- there is room for the longest line behind answers that were not written out: the room for a list has 81,920 words, that for answers 1,048,576 bytes
pub room_left : {at start : ℕ} (out : List ℕ) (list : List ℕ) → Room at start → length out ≡ 1048576 → length list ≡ 81920 → start + 11 * length list + 43 ≤ length out
room_left {at} {start} out list r o l = let k : start ≤ 65536 = small (lt_or 65536 at) in omega (arith, o, l, k)
  where
    small : (65536 < at) ⊎ (at ≤ 65536) → start ≤ 65536
    small (inl h) = omega (arith, r.long h)
    small (inr h) = omega (arith, r.short h, h)
