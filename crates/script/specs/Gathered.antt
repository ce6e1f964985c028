-- A line that is read byte by byte into a slice. What the slice holds are the line's first bytes, all of them or as many as it has room for; with room for one byte more than
-- the longest line that is enough to know what the line says.
-- Assumes nothing.
use Rattle.std.specs.Prelude.{List, [], ◌∷◌, ◌++◌, ◌≡◌, ℕ, suc, ◌≤◌, ◌<◌, length, take}
use Rattle.std.proofs.Common.{sym, ap, ◌∙◌, arith, length-take-le, take_all}
use Rattle.std.proofs.Math.Decide.{dec_lt}
use Rattle.std.proofs.Math.Seq.{take-nil}
use Rattle.script.specs.Line.{line_of, longest}
use Rattle.script.specs.LineLaws.{line_long}

-- the first `used` bytes of line are what it has room for of bs
pub record Gathered (line : List ℕ) (used : ℕ) (bs : List ℕ) : Type 0 where
  pub within : used ≤ length line
  pub text : take used line ≡ take (length line) bs

-- what `keep` promises: whatever was gathered, it is one byte more
pub record Keeps (line : List ℕ) (used b r : ℕ) (line' : List ℕ) : Type 0 where
  pub size : length line' ≡ length line
  pub within : r ≤ length line'
  pub law : (bs : List ℕ) → Gathered line used bs → Gathered line' r (bs ++ (b ∷ []))

-- nothing yet
pub gathered_none : (line : List ℕ) → Gathered line 0 []
gathered_none line = record { within = omega arith; text = sym (take-nil (length line)) }

module _ {line : List ℕ} {used : ℕ} {bs : List ℕ} (g : Gathered line used bs) where
  -- as many as there are, or as fit
  count : used ≡ length (take (length line) bs)
  count = sym (length-take-le used line g.within) ∙ ap length g.text

  -- a slice of one byte more than the longest line says as much as the line
  pub whole_line : length line ≡ suc longest → line_of (take used line) ≡ line_of bs
  whole_line e = go (dec_lt (length line) (length bs))
    where
      go : Dec (length line < length bs) → line_of (take used line) ≡ line_of bs
      go (yes l) =
          let n : length (take used line) ≡ suc longest = ap length g.text ∙ length-take-le (length line) bs (omega arith) ∙ e in
          line_long (take used line) (omega arith) ∙ sym (line_long bs (omega arith))
      go (no l) = ap line_of (g.text ∙ take_all (length line) bs (omega arith))
