-- What a read finds in words that hold rows. So the words and the number of ids settle the nodes and the keys, no read is refused there,
-- and a new key for one id is not seen by a read of another. Any words of the right length hold no ids.
-- Assumes nothing.
use Rattle.std.specs.Prelude.{List, [], ◌≢◌, ◌≡◌, refl, ◌+◌, ◌<◌, ℕ, length, set}
use Rattle.std.proofs.Common.{◌∙◌, not-suc-le-zero, arith, ext_get_or, get_or-set_other}
use Rattle.std.proofs.Math.Path.{sym}
use Rattle.language.specs.Term.{Match, Term, term_at, term_path}
use Rattle.lists.specs.Parts.{part_is}
use Rattle.rows.specs.Keying.{keying, rows_key}
use Rattle.rows.specs.Places.{within}
use Rattle.rows.specs.Read.{Sane, count_sane, given_read, key_read, read}
use Rattle.rows.specs.Rows.{Rows, size, taken}

module _ (ws : List ℕ) (n m : ℕ) (ts ks : List Term) (R : Rows ws n m ts ks) where
  pub sane : (i : ℕ) → i < length ts → Sane ws n m i
  sane i h = let r = R.row i h in let w = within ws n m ts ks R i h in (omega arith, omega arith)

  pub read_given : (i : ℕ) → i < length ts → given_read ws n m i ≡ term_at ts i
  unfolding read
  read_given i h =
      let r = R.row i h in
      let w = within ws n m ts ks R i h in
      term_path r.op r.payload
      (rw (count_sane ws n m i (sane i h), r.count, r.first) (part_is ws (term_at ts i).kids (n + n + n + n + taken ts i) (omega (arith, R.words)) r.given.same))

  pub read_key : (i : ℕ) → i < length ts → key_read ws n m i ≡ term_at ks i
  unfolding read
  read_key i h =
      let r = R.row i h in
      let w = within ws n m ts ks R i h in
      term_path (r.op ∙ sym r.same_head.op) (r.payload ∙ sym r.same_head.payload)
      (rw (count_sane ws n m i (sane i h), r.count, r.first, ← r.same_head.count) (part_is ws (term_at ks i).kids (n + n + n + n + m + taken ts i) (omega (arith, R.words, r.same_head.count)) r.key.same))

pub rows_none : (ws : List ℕ) (n m : ℕ) → length ws ≡ size n m → Rows ws n m [] []
rows_none ws n m e = record { words = e; ids = omega arith; keys = refl; room = omega arith; row = λ i h. absurd (not-suc-le-zero h) }

pub determined : (ws : List ℕ) (n m : ℕ) (ts ks us ls : List Term) → Rows ws n m ts ks → Rows ws n m us ls → length ts ≡ length us → (ts ≡ us) × (ks ≡ ls)
determined ws n m ts ks us ls R S e = (
  ext_get_or (record { op = 0; payload = 0; kids = [] }) ts us e (λ i h. sym (read_given ws n m ts ks R i h) ∙ read_given ws n m us ls S i (omega arith)),
  ext_get_or (record { op = 0; payload = 0; kids = [] }) ks ls (omega (arith, R.keys, S.keys))
      (λ i h. sym (read_key ws n m ts ks R i (omega (arith, R.keys))) ∙ read_key ws n m us ls S i (omega (arith, R.keys))),
)

-- after a new key for id i: the reads of the others, and the nodes as given
module _ (ws : List ℕ) (n m : ℕ) (ts ks : List Term) (R : Rows ws n m ts ks) (i : ℕ) (k : Term) (h : i < length ts) (e : Match k (term_at ts i)) where
  pub key_read_other : (j : ℕ) → j < length ts → j ≢ i → key_read (keying ws n m (taken ts i) k.kids) n m j ≡ key_read ws n m j
  key_read_other j b d =
      read_key (keying ws n m (taken ts i) k.kids) n m ts (set ks i k) (rows_key ws n m ts ks R i k h e) j b
      ∙ get_or-set_other ks i j k (record { op = 0; payload = 0; kids = [] }) d
      ∙ sym (read_key ws n m ts ks R j b)

  pub given_read_all : (j : ℕ) → j < length ts → given_read (keying ws n m (taken ts i) k.kids) n m j ≡ given_read ws n m j
  given_read_all j b =
      read_given (keying ws n m (taken ts i) k.kids) n m ts (set ks i k) (rows_key ws n m ts ks R i k h e) j b
      ∙ sym (read_given ws n m ts ks R j b)
