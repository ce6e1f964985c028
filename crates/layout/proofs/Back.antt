-- The view of words of which one part came back changed: the law that says what a lent part touches.
-- One clause for each part, which says of every other whether it lies before or after.
-- Assumes nothing.
use Rattle.std.specs.Prelude.{List, ◌≡◌, ◌-◌, ◌≤◌, ℕ, drop, length, take}
use Rattle.std.proofs.Common.{arith}
use Rattle.lists.specs.Parts.{drop_after, part, part_after, part_before, part_same, take_before}
use Rattle.layout.specs.Back.{back}
use Rattle.layout.specs.Cut.{Part, forest, lower, members, need, owners, pending, rows, scratch, sorting, table, upper, upper_is, upper_need, uses}
use Rattle.layout.specs.View.{hd, put, view}

module _ (n m : ℕ) (ws ys : List ℕ) (lent : need n m ≤ length ws) where
  module _ (k : Part) (e : length ys ≡ upper k n m - lower k n m) where
    rising : lower k n m ≤ upper k n m
    rising = omega (arith, upper_is k n m)

    fits : upper k n m ≤ length ws
    fits = omega (arith, upper_need k n m)

    on_head : 32 ≤ lower k n m → take 32 (back n m k ws ys) ≡ take 32 ws
    on_head h = take_before ws ys (lower k n m) (upper k n m) rising fits e 32 h

    on_self : part (back n m k ws ys) (lower k n m) (upper k n m) ≡ ys
    on_self = part_same ws ys (lower k n m) (upper k n m) rising fits e

    before : (j : Part) → upper j n m ≤ lower k n m → part (back n m k ws ys) (lower j n m) (upper j n m) ≡ part ws (lower j n m) (upper j n m)
    before j h = part_before ws ys (lower k n m) (upper k n m) rising fits e (lower j n m) (upper j n m) (omega (arith, upper_is j n m)) h

    after : (j : Part) → upper k n m ≤ lower j n m → part (back n m k ws ys) (lower j n m) (upper j n m) ≡ part ws (lower j n m) (upper j n m)
    after j h = part_after ws ys (lower k n m) (upper k n m) rising fits e (lower j n m) (upper j n m) h

    on_rest : drop (need n m) (back n m k ws ys) ≡ drop (need n m) ws
    on_rest = drop_after ws ys (lower k n m) (upper k n m) rising fits e (need n m) (upper_need k n m)

  pub back_view : (k : Part) → length ys ≡ upper k n m - lower k n m → view n m (back n m k ws ys) ≡ put k (view n m ws) ys
  unfolding view hd
  back_view forest e =
      rw (
        on_head forest e (omega arith),
        on_self forest e,
        after forest e rows (omega arith),
        after forest e sorting (omega arith),
        after forest e uses (omega arith),
        after forest e owners (omega arith),
        after forest e members (omega arith),
        after forest e table (omega arith),
        after forest e pending (omega arith),
        after forest e scratch (omega arith),
        on_rest forest e,
      )
  back_view rows e =
      rw (
        on_head rows e (omega arith),
        before rows e forest (omega arith),
        on_self rows e,
        after rows e sorting (omega arith),
        after rows e uses (omega arith),
        after rows e owners (omega arith),
        after rows e members (omega arith),
        after rows e table (omega arith),
        after rows e pending (omega arith),
        after rows e scratch (omega arith),
        on_rest rows e,
      )
  back_view sorting e =
      rw (
        on_head sorting e (omega arith),
        before sorting e forest (omega arith),
        before sorting e rows (omega arith),
        on_self sorting e,
        after sorting e uses (omega arith),
        after sorting e owners (omega arith),
        after sorting e members (omega arith),
        after sorting e table (omega arith),
        after sorting e pending (omega arith),
        after sorting e scratch (omega arith),
        on_rest sorting e,
      )
  back_view uses e =
      rw (
        on_head uses e (omega arith),
        before uses e forest (omega arith),
        before uses e rows (omega arith),
        before uses e sorting (omega arith),
        on_self uses e,
        after uses e owners (omega arith),
        after uses e members (omega arith),
        after uses e table (omega arith),
        after uses e pending (omega arith),
        after uses e scratch (omega arith),
        on_rest uses e,
      )
  back_view owners e =
      rw (
        on_head owners e (omega arith),
        before owners e forest (omega arith),
        before owners e rows (omega arith),
        before owners e sorting (omega arith),
        before owners e uses (omega arith),
        on_self owners e,
        after owners e members (omega arith),
        after owners e table (omega arith),
        after owners e pending (omega arith),
        after owners e scratch (omega arith),
        on_rest owners e,
      )
  back_view members e =
      rw (
        on_head members e (omega arith),
        before members e forest (omega arith),
        before members e rows (omega arith),
        before members e sorting (omega arith),
        before members e uses (omega arith),
        before members e owners (omega arith),
        on_self members e,
        after members e table (omega arith),
        after members e pending (omega arith),
        after members e scratch (omega arith),
        on_rest members e,
      )
  back_view table e =
      rw (
        on_head table e (omega arith),
        before table e forest (omega arith),
        before table e rows (omega arith),
        before table e sorting (omega arith),
        before table e uses (omega arith),
        before table e owners (omega arith),
        before table e members (omega arith),
        on_self table e,
        after table e pending (omega arith),
        after table e scratch (omega arith),
        on_rest table e,
      )
  back_view pending e =
      rw (
        on_head pending e (omega arith),
        before pending e forest (omega arith),
        before pending e rows (omega arith),
        before pending e sorting (omega arith),
        before pending e uses (omega arith),
        before pending e owners (omega arith),
        before pending e members (omega arith),
        before pending e table (omega arith),
        on_self pending e,
        after pending e scratch (omega arith),
        on_rest pending e,
      )
  back_view scratch e =
      rw (
        on_head scratch e (omega arith),
        before scratch e forest (omega arith),
        before scratch e rows (omega arith),
        before scratch e sorting (omega arith),
        before scratch e uses (omega arith),
        before scratch e owners (omega arith),
        before scratch e members (omega arith),
        before scratch e table (omega arith),
        before scratch e pending (omega arith),
        on_self scratch e,
        on_rest scratch e,
      )
