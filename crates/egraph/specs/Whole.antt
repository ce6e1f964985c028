-- That words are whole, as far as a call reads them, can be decided: their head, the rows of all ids, the lists of all classes. So a promise that says what comes where they
-- are whole, and that 9 (of the head 3) comes where they are not, leaves no words out.
-- Assumes nothing.
use Rattle.std.specs.Prelude.{List, ◌≡◌, ◌*◌, ◌<◌, suc, zero, ℕ, length}
use Rattle.std.proofs.Math.Decide.{dec_le, dec_lt, ℕ_discrete}
use Rattle.std.proofs.Common.{arith}
use Rattle.lists.specs.Members.{all_members, mem_at}
use Rattle.lists.specs.Reads.{at}
use Rattle.lists.specs.Tests.{both, re_dec}
use Rattle.eclass.specs.Checks.{UnbrokenIn}
use Rattle.eclass.specs.ClassCount.{total_of}
use Rattle.eclass.specs.ClassWalk.{Fine, class_ids}
use Rattle.egraph.specs.Answers.{Good}
use Rattle.egraph.specs.Listing.{RowsIn, SaneIn}
use Rattle.layout.specs.Cut.{need}
use Rattle.layout.specs.Head.{HeadOk, numbers}
use Rattle.layout.specs.View.{hd, view}
use Rattle.layout.specs.declared.Head.{Head}
use Rattle.rows.specs.Read.{Sane, sane_test}

-- ---- whether all numbers below one pass a test

pub all_below : {P : ℕ → Type 0} → ((i : ℕ) → Dec (P i)) → (n : ℕ) → Dec ((i : ℕ) → i < n → P i)
all_below t zero = yes (λ i h. absurd (omega arith))
all_below {P} t (suc n) = go (t n) (all_below t n)
  where
    last : P n → ((i : ℕ) → i < n → P i) → (i : ℕ) → i < suc n → Dec (i ≡ n) → P i
    last p f i h (yes e) = rw e p
    last p f i h (no e) = f i (omega arith)

    go : Dec (P n) → Dec ((i : ℕ) → i < n → P i) → Dec ((i : ℕ) → i < suc n → P i)
    go (no k) d = no (λ f. k (f n (omega arith)))
    go (yes p) (no k) = no (λ f. k (λ i h. f i (omega arith)))
    go (yes p) (yes f) = yes (λ i h. last p f i h (ℕ_discrete i n))

-- ---- the head

ok_test : (len : ℕ) (s : Head) → Dec (HeadOk len s)
ok_test len s =
    re_dec
    (λ p. record { n_low = p.0; n_high = p.1.0; m_high = p.1.1.0; ids_in = p.1.1.1.0; places_in = p.1.1.1.1.0; depth_in = p.1.1.1.1.1.0; classes_in = p.1.1.1.1.1.1.0; lent = p.1.1.1.1.1.1.1 })
    (λ o. (o.n_low, (o.n_high, (o.m_high, (o.ids_in, (o.places_in, (o.depth_in, (o.classes_in, o.lent))))))))
    (both (dec_le 1 s.n)
    (both (dec_le s.n 65536)
    (both (dec_le s.m 262144)
    (both (dec_le s.ids s.n)
    (both (dec_le s.places s.m)
    (both (dec_le s.depth (2 * s.n))
    (both (dec_le s.classes s.ids)
    (dec_le (need s.n s.m) len))))))))

pub good_test : (ws : List ℕ) → Dec (Good ws)
good_test ws =
    re_dec
    (λ p. record { flag = p.0; ok = p.1 })
    (λ g. (g.flag, g.ok))
    (both (dec_le (at (hd ws) 6) 1) (ok_test (length ws) (numbers (hd ws))))

-- ---- rows

pub row_test : (h : Head) (ws : List ℕ) (i : ℕ) → Dec (SaneIn h ws i)
row_test h ws i = sane_test (view h.n h.m ws).rows h.n h.m i

pub rows_test : (h : Head) (ws : List ℕ) → Dec (RowsIn h ws)
rows_test h ws = all_below (row_test h ws) h.ids

-- ---- lists of members

fine_test : (ms rs : List ℕ) (n m N r : ℕ) → Dec (Fine ms rs n m N r)
fine_test ms rs n m N r =
    let xs = class_ids ms n r in
    re_dec
    (λ f. record { all = all_members (λ (x : ℕ). (x < N) × Sane rs n m x) xs f })
    (λ F i l. F.all (at xs i) (mem_at xs i l))
    (all_below (λ (i : ℕ). both (dec_lt (at xs i) N) (sane_test rs n m (at xs i))) (length xs))

pub unbroken_test : (h : Head) (ws : List ℕ) → Dec (UnbrokenIn h ws)
unbroken_test h ws =
    let ms = (view h.n h.m ws).members in
    let rs = (view h.n h.m ws).rows in
    re_dec
    (λ p. record { few = p.0; fine = p.1 })
    (λ u. (u.few, u.fine))
    (both (dec_le (total_of ms h.n h.ids) h.ids) (all_below (fine_test ms rs h.n h.m h.ids) h.ids))
